use Rattle.worked.proofs.Steps.{began, not_begun, profile_written, profile_lacks, table_written, table_lacks}
use Rattle.worked.proofs.issuing.issue.Goals as goal

pub returns-in_err-opening : goal.returns-in_err-opening
returns-in_err-opening g c n a = absurd (not_begun g.L.Evidence g.L.Ledger c.args.survey.now c.begin.new.self n _ a c.in_err-opening.ensures.made)

pub withdraw-requires : goal.withdraw-requires
withdraw-requires g c =
    let e = g.L.Evidence in
    let l = g.L.Ledger in
    let b = began e l c.args.survey.now c.begin.new.self _ _ c.requires.1 c.in_ok-opening.ensures.made in
    let p = profile_written e l c.begin.new.self c.profile.new.self _ _ c.args.buffer.now c.profile.new.buffer b _ _ c.in-Ok.ensures in
    let q = table_lacks e l c.begin.new.self c.profile.new.self c.table.new.self _ _ _ c.args.buffer.now c.profile.new.buffer c.table.new.buffer p _ _ c.in-Err-table.ensures in
    (_, _, q.0, q.1)

pub withdraw-requires-in-Err : goal.withdraw-requires-in-Err
withdraw-requires-in-Err g c =
    let e = g.L.Evidence in
    let l = g.L.Ledger in
    let b = began e l c.args.survey.now c.begin.new.self _ _ c.requires.1 c.in_ok-opening.ensures.made in
    let q = profile_lacks e l c.begin.new.self c.profile.new.self _ _ c.args.buffer.now c.profile.new.buffer b _ _ c.in-Err.ensures in
    (_, _, q.0, q.1)

pub returns-in-Ok-table : goal.returns-in-Ok-table
returns-in-Ok-table g c n a =
    let e = g.L.Evidence in
    let l = g.L.Ledger in
    let b = began e l c.args.survey.now c.begin.new.self _ _ a c.in_ok-opening.ensures.made in
    let p = profile_written e l c.begin.new.self c.profile.new.self _ _ c.args.buffer.now c.profile.new.buffer b _ _ c.in-Ok.ensures in
    table_written e l c.begin.new.self c.profile.new.self c.table.new.self _ _ _ c.args.buffer.now c.profile.new.buffer c.table.new.buffer p _ c.in-Ok-table.ensures

pub returns-in-Err-table : goal.returns-in-Err-table
returns-in-Err-table g c n a =
    let e = g.L.Evidence in
    let l = g.L.Ledger in
    let b = began e l c.args.survey.now c.begin.new.self _ _ a c.in_ok-opening.ensures.made in
    let p = profile_written e l c.begin.new.self c.profile.new.self _ _ c.args.buffer.now c.profile.new.buffer b _ _ c.in-Ok.ensures in
    let q = table_lacks e l c.begin.new.self c.profile.new.self c.table.new.self _ _ _ c.args.buffer.now c.profile.new.buffer c.table.new.buffer p _ _ c.in-Err-table.ensures in
    (q.2, c.withdraw.ensures n _ q.0)

pub returns-in-Err : goal.returns-in-Err
returns-in-Err g c n a =
    let e = g.L.Evidence in
    let l = g.L.Ledger in
    let b = began e l c.args.survey.now c.begin.new.self _ _ a c.in_ok-opening.ensures.made in
    let q = profile_lacks e l c.begin.new.self c.profile.new.self _ _ c.args.buffer.now c.profile.new.buffer b _ _ c.in-Err.ensures in
    (q.2, c.withdraw-in-Err.ensures n _ q.0)

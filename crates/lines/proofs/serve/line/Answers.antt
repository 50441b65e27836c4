use Rattle.survey.specs.Views.{view}
use Rattle.lines.proofs.Details.{line_detail}
use Rattle.lines.proofs.Told.{told_ok, told_no, in_whole, has_room}
use Rattle.lines.proofs.serve.line.Goals as goal

pub put_no-requires : goal.put_no-requires
put_no-requires g c =
    let a = c.in-Err.ensures in
    line_detail (view g.L.Evidence g.L.Ledger c.args.survey.now) _ _ _ a.1 _ _ _ (g.met.L.Evidence.sound c.args.survey.now.ledger) a.2 a.3

pub returns-in-Ok : goal.returns-in-Ok
returns-in-Ok g c =
    let a = c.in-Ok.ensures in
    let chunk = (rw c.in_ok-reply.ensures.ok_part at c.first_chunk_mut.ensures).cases in
    let front = told_ok c.args.number a.1 _ _ _ a.3 in
    let short = has_room c.args.number a.1 _ _ _ _ front c.answer.array_long in
    let told = in_whole c.args.number a.1 c.args.reply.now c.in_ok-reply.reply.now c.answer.new.reply _ _ chunk short front in
    record { replied = (a.0, (chunk.enough, (a.1, a.2, told.0.0, told.0.1)), a.4); within = told.1 }

pub returns-in-Err : goal.returns-in-Err
returns-in-Err g c =
    let a = c.in-Err.ensures in
    let chunk = (rw c.in_ok-reply.ensures.ok_part at c.first_chunk_mut.ensures).cases in
    let front = told_no c.args.number a.1 _ _ _ _ _ a.3 c.put_no.ensures.told in
    let told = in_whole c.args.number a.1 c.args.reply.now c.in_ok-reply.reply.now c.put_no.new.reply _ _ chunk c.put_no.ensures.short front in
    record { replied = (a.0, (chunk.enough, (a.1, a.2, told.0.0, told.0.1)), a.4); within = told.1 }

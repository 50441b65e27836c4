use Rattle.std.proofs.Common.{◌≡◌, true, ltb, arith}
use Rattle.std.proofs.lemmas.Result.{err_from_is_err_and}
use Rattle.std.proofs.lemmas.Bool.{lt-ltb, ltb-true}
use Rattle.survey.specs.Views.{view}
use Rattle.survey.proofs.Yes.{yes}
use Rattle.survey.proofs.Changed.{unchanged, enlisted}
use Rattle.survey.proofs.survey.Survey.enlist.Goals as goal

pub returns : goal.returns
returns g c =
    let v = view g.L.Evidence g.L.Ledger c.args.self.now in
    let a = c.in_ok-baseline.ensures in
    let wide = lt-ltb 0 c.args.span (omega arith) in
    let idle = c.in_ok-ask_idle.ensures.idle in
    (rw (idle, wide) a.table.0, (a.table.1.number, enlisted v a.most c.args.span a.table.1 c.push.ensures.items))

pub returns-in_err-baseline : goal.returns-in_err-baseline
returns-in_err-baseline g c =
    let p = err_from_is_err_and c.from_residual-in_err-baseline.result c.from_residual-in_err-baseline.ensures.1 in
    let v = view g.L.Evidence g.L.Ledger c.args.self.now in
    let a = c.in_err-baseline.ensures in
    let wide = lt-ltb 0 c.args.span (omega arith) in
    let idle = c.in_ok-ask_idle.ensures.idle in
    rw (p.1, p.2) (rw (idle, wide) a.table.0, unchanged v a.most a.table.1)

pub push-requires : goal.push-requires
push-requires g c =
    let count = (g.L.Evidence.meaning c.args.self.now.ledger).count in
    let room : ltb count 64 ≡ true = (yes _ c.in_ok-baseline.ensures.table.0).0 in
    omega (arith, c.args.self.now.spanned, ltb-true count 64 room)

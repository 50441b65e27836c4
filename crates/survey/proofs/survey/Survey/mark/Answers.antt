use Rattle.std.proofs.Common.{cond, sym, ap}
use Rattle.std.proofs.lemmas.Result.{err_from_is_err_and}
use Rattle.survey.specs.declared.state.State.TheVariants.{Unresolved}
use Rattle.survey.specs.Views.{view}
use Rattle.survey.proofs.Changed.{unchanged, marked}
use Rattle.survey.proofs.survey.Survey.mark.Goals as goal

pub returns-then-changed : goal.returns-then-changed
returns-then-changed g c =
    let v = view g.L.Evidence g.L.Ledger c.args.self.now in
    let a = c.in_ok-changed.ensures in
    let idle = c.in_ok-ask_idle.ensures.idle in (
      rw idle a.table.0,
      (a.table.1.told, marked v a.most c.args.i c.args.j c.args.on _ _ a.table.1 (sym (ap (λ b. cond b Unresolved v.state) c.if-changed.true))),
    )

pub returns-else-changed : goal.returns-else-changed
returns-else-changed g c =
    let v = view g.L.Evidence g.L.Ledger c.args.self.now in
    let a = c.in_ok-changed.ensures in
    let idle = c.in_ok-ask_idle.ensures.idle in (
      rw idle a.table.0,
      (a.table.1.told, marked v a.most c.args.i c.args.j c.args.on _ _ a.table.1 (sym (ap (λ b. cond b Unresolved v.state) c.if-changed.false))),
    )

pub returns-in_err-changed : goal.returns-in_err-changed
returns-in_err-changed g c =
    let p = err_from_is_err_and c.from_residual-in_err-changed.result c.from_residual-in_err-changed.ensures.1 in
    let v = view g.L.Evidence g.L.Ledger c.args.self.now in
    let a = c.in_err-changed.ensures in
    let idle = c.in_ok-ask_idle.ensures.idle in
    rw (p.1, p.2) (
      rw idle a.table.0,
      unchanged v a.most a.table.1,
    )

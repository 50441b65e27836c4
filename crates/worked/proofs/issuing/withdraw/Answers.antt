use Rattle.std.proofs.Common.{subst}
use Rattle.survey.specs.History.{Withdraw}
use Rattle.survey.specs.Runs.{Leads}
use Rattle.worked.proofs.Steps.{kept, withdrew}
use Rattle.worked.proofs.issuing.withdraw.Goals as goal

pub unwrap-requires : goal.unwrap-requires
unwrap-requires g c = kept g.L.Evidence g.L.Ledger c.args.survey.now c.withdraw.new.self c.args.paper c.withdraw.result c.requires c.withdraw.ensures

pub returns : goal.returns
returns g c n d a =
    let goes = subst (λ r. Leads g.L.Evidence g.L.Ledger c.args.survey.now (Withdraw c.args.paper r) c.withdraw.new.self) c.unwrap.ensures c.withdraw.ensures in
    withdrew g.L.Evidence g.L.Ledger _ _ n d _ _ a goes

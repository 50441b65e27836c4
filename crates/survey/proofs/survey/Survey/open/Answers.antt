use Rattle.std.proofs.Common.{rules}
use Rattle.survey.proofs.Lawful.{opens}
use Rattle.survey.proofs.survey.Survey.open.Goals as goal

pub returns : goal.returns
returns g c = opens g.L.Evidence g.L.Ledger g.met.L.Evidence.sound c.args.number (g.L.Ledger.most c.args.ledger) _ (search rules)

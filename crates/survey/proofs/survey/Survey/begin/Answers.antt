use Rattle.std.proofs.Common.{◌+◌, arith}
use Rattle.survey.specs.declared.state.State.TheVariants.{Begun}
use Rattle.survey.proofs.Fits.{both_fit}
use Rattle.survey.proofs.survey.Survey.begin.Goals as goal

pub returns-clause-room : goal.returns-clause-room
returns-clause-room g c = both_fit g.L.Evidence g.L.Ledger c.args.self.now (c.args.self.now.begun + 1) (Begun c.in-Resolved.layout) (omega arith) (g.met.L.Evidence.sound c.args.self.now.ledger)

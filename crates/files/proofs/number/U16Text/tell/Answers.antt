use Rattle.std.proofs.Common.{arith}
use Rattle.std.proofs.lemmas.Fmt.{length-decimal-le}
use Rattle.files.proofs.number.U16Text.tell.Goals as goal

pub returns-clause-few : goal.returns-clause-few
returns-clause-few g c = length-decimal-le 5 c.args.self.now (omega arith) (omega arith) (omega arith)

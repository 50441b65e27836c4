use Rattle.theory.proofs.Unique.{answer_fixed}
use Rattle.theory.proofs.theorems.answer_fixed.Goals as goal

pub returns : goal.returns
returns c = answer_fixed

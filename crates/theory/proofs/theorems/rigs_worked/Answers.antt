use Rattle.theory.proofs.Rigs.{rigs_yield}
use Rattle.theory.proofs.theorems.rigs_worked.Goals as goal

pub returns : goal.returns
returns c = rigs_yield

use Rattle.theory.proofs.Drawn.{drawn_back}
use Rattle.theory.proofs.theorems.drawn_back.Goals as goal

pub returns : goal.returns
returns c = drawn_back

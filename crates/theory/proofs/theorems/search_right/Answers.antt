use Rattle.theory.proofs.Searched.{search_right}
use Rattle.theory.proofs.theorems.search_right.Goals as goal

pub returns : goal.returns
returns c = search_right

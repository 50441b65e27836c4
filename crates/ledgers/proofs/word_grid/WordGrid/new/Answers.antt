use Rattle.ledgers.proofs.Grids.{kept_none}
use Rattle.ledgers.proofs.word_grid.WordGrid.new.Goals as goal

pub invariant_of-result : goal.invariant_of-result
invariant_of-result c = kept_none c.empty.result c.empty.ensures

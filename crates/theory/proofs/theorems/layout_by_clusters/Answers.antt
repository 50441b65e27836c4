use Rattle.theory.proofs.Whole.{layout_by_clusters}
use Rattle.theory.proofs.theorems.layout_by_clusters.Goals as goal

pub returns : goal.returns
returns c = layout_by_clusters

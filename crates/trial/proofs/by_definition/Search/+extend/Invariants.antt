use Rattle.std.proofs.Common.{length}
use Rattle.trial.proofs.by_definition.Search.+extend.Given as goal

abbrev pub decreases-extend : goal.decreases-extend
decreases-extend g l = length l.left.now

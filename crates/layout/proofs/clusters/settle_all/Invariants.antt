use Rattle.std.proofs.Common.{◌≡◌}
use Rattle.layout.specs.Answered.{Settling}
use Rattle.layout.specs.Told.{told}
use Rattle.layout.proofs.clusters.settle_all.Given as goal

abbrev pub invariant-loop-r : goal.invariant-loop-r
invariant-loop-r l = (l.found.near.rows.now ≡ l.rows) × Settling (told l.rows) l.found l.r

use Rattle.std.proofs.Common.{◌≡◌, ◌-◌, ◌^◌, ◌<◌, true, reverse}
use Rattle.bitset.specs.Sets.{has}
use Rattle.theory.specs.Walks.{Steps}
use Rattle.theory.proofs.Counts.{how_many}
use Rattle.layout.specs.Told.{told}
use Rattle.layout.proofs.Steps.{Closed}
use Rattle.layout.proofs.walk.Walk.of_cluster.Given as goal

abbrev pub invariant-loop-u : goal.invariant-loop-u
invariant-loop-u l =
    (l.met.bits < 2 ^ 64) × Steps (told l.rows) l.root (reverse l.steps.items) l.met.bits × (has l.met.bits l.root ≡ true)
    × Closed (told l.rows) l.visited.bits l.met.bits

abbrev pub decreases-loop-u : goal.decreases-loop-u
decreases-loop-u l = 64 - how_many (has l.visited.bits) 64

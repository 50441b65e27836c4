use Rattle.std.proofs.Common.{◌≡◌}
use Rattle.layout.proofs.Taking.{Taking}
use Rattle.layout.proofs.near.NearStars.take_over.Given as goal

abbrev pub invariant-loop-v : goal.invariant-loop-v
invariant-loop-v l =
    (goal.iterator-loop-v).can_next l.v-iterator × (goal.iterator-loop-v).is_finite l.v-iterator
    × (l.self.rows ≡ l.initial.self.rows)
    × Taking l.fn.cluster.bits l.v-iterator.left.bits l.other.near l.initial.self.near l.self.near

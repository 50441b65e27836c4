use Rattle.std.proofs.Common.{◌≡◌, ◌++◌, map}
use Rattle.bitset.specs.Sets.{members}
use Rattle.layout.proofs.walk.step_to.Given as goal

abbrev pub invariant-loop-v : goal.invariant-loop-v
invariant-loop-v l =
    (goal.iterator-loop-v).can_next l.v-iterator × (goal.iterator-loop-v).is_finite l.v-iterator
    × (l.steps.items ++ map (λ v. (l.u, v)) (members l.v-iterator.left.bits) ≡ l.initial.steps.items ++ map (λ v. (l.u, v)) (members l.fn.new.bits))

use Rattle.layout.proofs.Giving.{Giving}
use Rattle.layout.proofs.numbers.Numbers.give.Given as goal

abbrev pub invariant-loop-w : goal.invariant-loop-w
invariant-loop-w l =
    (goal.iterator-loop-w).can_next l.w-iterator × (goal.iterator-loop-w).is_finite l.w-iterator
    × Giving l.initial.self l.fn.a.bits l.w-iterator.left.bits l.self

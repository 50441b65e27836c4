use Rattle.std.proofs.Common.{◌≡◌, length, All}
use Rattle.theory.specs.Search.{Start}
use Rattle.layout.specs.Near.{KeptOutside}
use Rattle.layout.specs.Order.{starts_left, left}
use Rattle.layout.specs.Told.{told}
use Rattle.layout.proofs.settle.find.Given as goal

abbrev pub invariant-loop-cross : goal.invariant-loop-cross
invariant-loop-cross l = (l.near.rows.now ≡ l.initial.near.rows.now)
    × All (Start (told l.walk.rows.now) l.walk.root) (starts_left l.starts)
    × (left (told l.walk.rows.now) l.walk.root l.initial.starts ≡ left (told l.walk.rows.now) l.walk.root l.starts)
    × KeptOutside (told l.walk.rows.now) l.walk.root l.initial.near.near l.near.near

abbrev pub decreases-loop-cross : goal.decreases-loop-cross
decreases-loop-cross l = length (starts_left l.starts)

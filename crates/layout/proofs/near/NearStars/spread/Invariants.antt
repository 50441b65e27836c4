use Rattle.std.proofs.Common.{◌≡◌}
use Rattle.layout.specs.Told.{told}
use Rattle.layout.proofs.Spreads.{Spreading}
use Rattle.layout.proofs.near.NearStars.spread.Given as goal

abbrev pub invariant-loop-from : goal.invariant-loop-from
invariant-loop-from l =
    (l.self.rows ≡ l.initial.self.rows) × Spreading (told l.walk.rows.now) l.from-items l.initial.self.near l.self.near l.from-index

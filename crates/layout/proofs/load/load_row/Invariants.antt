use Rattle.std.proofs.Common.{◌≡◌, ℕ, ◌^◌, ◌<◌, ◌&&◌, ltb}
use Rattle.bitset.specs.Sets.{has}
use Rattle.layout.proofs.load.load_row.Given as goal

abbrev pub invariant-loop-j : goal.invariant-loop-j
invariant-loop-j g l = (l.row.bits < 2 ^ 64) × ((k : ℕ) → has l.row.bits k ≡ (ltb k l.j && (g.E.Evidence.meaning l.evidence).shares l.i k))

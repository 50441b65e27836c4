-- The table of a ring of baselines.
use Rattle.std.specs.Prelude.{ℕ, ◌+◌, ◌%◌, min, Bool, ◌||◌, ◌==◌}
use Rattle.std.proofs.Common.{arith}
use Rattle.std.proofs.Math.Bool.{or_comm}
use Rattle.evidence.specs.Table.{Table, Sound, of_pairs, pairs_sound}

-- How many there are.
abbrev pub around : ℕ → ℕ
around size = min size 64

-- Whether j comes after i, the first after the last.
abbrev pub follows : ℕ → ℕ → ℕ → Bool
follows size i j = (i + 1) % around size == j

-- Two different baselines share when one comes after the other.
abbrev pub ring : ℕ → Table
ring size = of_pairs (around size) (λ i j. follows size i j || follows size j i)

pub ring_sound : (size : ℕ) → Sound (ring size)
ring_sound size = pairs_sound (around size) _ (omega arith) (λ i j. or_comm (follows size i j) (follows size j i))

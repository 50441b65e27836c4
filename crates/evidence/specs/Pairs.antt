-- How many pairs of baselines share.
use Rattle.std.specs.Prelude.{ℕ, zero, suc, ◌+◌, cond}
use Rattle.evidence.specs.Table.{Table}

-- The sum of f over the numbers below n.
abbrev pub sum_to : ℕ → (ℕ → ℕ) → ℕ
sum_to zero f = 0
sum_to (suc n) f = f n + sum_to n f

-- How many baselines below i share with i.
abbrev pub below : Table → ℕ → ℕ
below t i = sum_to i (λ j. cond (t.shares i j) 1 0)

-- How many pairs share, each counted once.
unfoldable pub pairs : Table → ℕ
pairs t = sum_to t.count (below t)

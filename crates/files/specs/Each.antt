-- Texts in the order of their numbers.
use Rattle.std.specs.Prelude.{ℕ, zero, suc, List, [], ◌++◌}

-- The texts of the numbers below n, rising, one after another.
abbrev pub each : (ℕ → List ℕ) → ℕ → List ℕ
each text zero = []
each text (suc n) = each text n ++ text n

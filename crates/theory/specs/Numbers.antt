-- The numbers of the imagers.
use Rattle.std.specs.Prelude.{◌≡◌, ℕ, zero, suc, ◌+◌, ◌<◌, true, cond, ◌⊎◌, List, [], ◌∷◌}
use Rattle.theory.specs.Layout.{Ends, stands}

-- The baselines at imager a, rising, of the n that follow i.
abbrev pub baselines_from : (ℕ → Ends) → ℕ → ℕ → ℕ → List ℕ
baselines_from e a i zero = []
baselines_from e a i (suc n) = cond (stands a (e i)) (i ∷ baselines_from e a (i + 1) n) (baselines_from e a (i + 1) n)

-- The baselines below n at imager a, rising.
abbrev pub baselines_at : ℕ → (ℕ → Ends) → ℕ → List ℕ
baselines_at n e a = baselines_from e a 0 n

-- The order of imagers by their baselines: at the first place where the lists differ the smaller number comes first,
-- and a list that ends there comes last. Equal lists stand in either order.
abbrev pub Ahead : List ℕ → List ℕ → Type 0
Ahead [] [] = Unit {0}
Ahead [] (y ∷ ys) = ⊥
Ahead (x ∷ xs) [] = Unit {0}
Ahead (x ∷ xs) (y ∷ ys) = (x < y) ⊎ ((x ≡ y) × Ahead xs ys)

-- The imagers of n baselines have the numbers below `imagers`: each end is told lower number first,
-- every number stands at some baseline, and the numbers follow the order of imagers.
pub record Numbered (n : ℕ) (e : ℕ → Ends) (imagers : ℕ) : Type 0 where
  pub told : (i : ℕ) → i < n → ((e i).0 < (e i).1) × ((e i).1 < imagers)
  pub used : (a : ℕ) → a < imagers → (i : ℕ) × (i < n) × (stands a (e i) ≡ true)
  pub order : (a b : ℕ) → a < b → b < imagers → Ahead (baselines_at n e a) (baselines_at n e b)

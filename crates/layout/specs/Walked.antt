-- What a walk has met, and how.
use Rattle.std.specs.Prelude.{◌≡◌, ℕ, ◌<◌, Bool, true, not, ◌&&◌, List, [], ◌∷◌, reverse, bit_or}
use Rattle.bitset.specs.Sets.{has, single}
use Rattle.evidence.specs.Table.{Table}
use Rattle.theory.specs.Clusters.{Reach}

-- What steps from r have met, the newest first.
unfoldable pub met_by : ℕ → List (ℕ × ℕ) → ℕ
met_by r [] = single r
met_by r (s ∷ steps) = bit_or (met_by r steps) (single s.1)

-- Each of the steps goes from a baseline met before to one not met that shares with it.
unfoldable pub goes_on : Table → ℕ → List (ℕ × ℕ) → Bool
goes_on t r [] = true
goes_on t r (s ∷ steps) = goes_on t r steps && (has (met_by r steps) s.0 && (not (has (met_by r steps) s.1) && t.shares s.0 s.1))

-- A walk from a root has met the whole cluster, by these steps in their order.
pub record Walked (t : Table) (root all : ℕ) (steps : List (ℕ × ℕ)) : Type 0 where
  pub below : root < t.count
  pub along : goes_on t root (reverse steps) ≡ true
  pub met : all ≡ met_by root (reverse steps)
  pub whole : (v : ℕ) → Reach t root v → has all v ≡ true

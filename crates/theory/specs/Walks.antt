-- A walk through the cluster of a baseline, and the cluster as a set.
use Rattle.std.specs.Prelude.{◌≡◌, ℕ, zero, suc, true, false, cond, not, ◌&&◌, List, [], ◌∷◌, ◌==◌, bit_and, bit_or}
use Rattle.bitset.specs.Sets.{has, single, lowest, set_of}
use Rattle.evidence.specs.Table.{Table}
use Rattle.theory.specs.Stars.{row}

-- What was met, and the steps from one met before to the one then met, the newest first.
pub record Walk : Type 0 where
  pub met : ℕ
  pub steps : List (ℕ × ℕ)

-- Steps of a walk from r, and what they have met: each goes from a baseline met to one not met that shares with it.
pub data Steps (t : Table) (r : ℕ) : List (ℕ × ℕ) → ℕ → Type 0 where
  none : Steps t r [] (single r)
  more : {steps : List (ℕ × ℕ)} {met p v : ℕ} → Steps t r steps met
      → has met p ≡ true → has met v ≡ false → t.shares p v ≡ true
      → Steps t r ((p, v) ∷ steps) (bit_or met (single v))

-- The baselines not met that share with one that was.
unfoldable pub fringe : Table → ℕ → ℕ
fringe t met = set_of (λ v. not (has met v) && not (bit_and (row t v) met == 0)) 64

-- One step more, to v.
unfoldable pub meet : Table → Walk → ℕ → Walk
meet t w v = record { met = bit_or w.met (single v); steps = (lowest (bit_and (row t v) w.met), v) ∷ w.steps }

-- At most so many steps more.
unfoldable pub walk_on : Table → ℕ → Walk → Walk
walk_on t zero w = w
walk_on t (suc k) w = cond (fringe t w.met == 0) w (walk_on t k (meet t w (lowest (fringe t w.met))))

unfoldable pub walk : Table → ℕ → Walk
walk t r = walk_on t t.count (record { met = single r; steps = [] })

-- The cluster of r, as a set, and its lowest baseline.
abbrev pub cluster : Table → ℕ → ℕ
cluster t r = (walk t r).met

abbrev pub root : Table → ℕ → ℕ
root t v = lowest (cluster t v)

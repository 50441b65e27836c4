-- The answer of the search to a whole table.
use Rattle.std.specs.Prelude.{ℕ, zero, suc, Bool, cond, not, List, [], ◌∷◌, length, Some, None, Option}
use Rattle.evidence.specs.Table.{Table}
use Rattle.theory.specs.Layout.{Ends}
use Rattle.theory.specs.Walks.{root}
use Rattle.theory.specs.Search.{attempt, passing, is_nil}
use Rattle.theory.specs.Imagers.{all_stars, layout_of}

-- The first start of a list, and the others.
abbrev pub first_start : List (Option ℕ) → Option ℕ
first_start [] = None
first_start (x ∷ xs) = x

abbrev pub other_starts : List (Option ℕ) → List (Option ℕ)
other_starts [] = []
other_starts (x ∷ xs) = xs

-- The near star of v: that of the preferred start of its cluster.
unfoldable pub near_of : Table → ℕ → ℕ
near_of t v = attempt t (root t v) (first_start (passing t (root t v))) v

-- Whether another start passes for the cluster of v.
unfoldable pub contested : Table → ℕ → Bool
contested t v = not (is_nil (other_starts (passing t (root t v))))

-- The lowest number below n that passes a test.
abbrev pub or_else : Option ℕ → Option ℕ → Option ℕ
or_else None o = o
or_else (Some i) o = Some i

unfoldable pub lowest_that : (ℕ → Bool) → ℕ → Option ℕ
lowest_that p zero = None
lowest_that p (suc n) = or_else (lowest_that p n) (cond (p n) (Some n) None)

-- The lowest baseline of whose cluster no start passes.
abbrev pub unsettled : Table → Option ℕ
unsettled t = lowest_that (λ v. is_nil (passing t (root t v))) t.count

-- What is found: how many imagers, the ends of each baseline, and whether it is doubtful.
pub record Found : Type 0 where
  pub imagers : ℕ
  pub ends : ℕ → Ends
  pub doubtful : ℕ → Bool

abbrev pub found : Table → Found
found t = record { imagers = length (all_stars t (near_of t)); ends = layout_of t (near_of t); doubtful = contested t }

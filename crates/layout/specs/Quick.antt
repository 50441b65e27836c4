-- The test of near stars that asks each star once: what is left out follows from the test at the star's lowest baseline.
use Rattle.std.specs.Prelude.{ℕ, Bool, cond, ◌&&◌, ◌||◌, ◌==◌, bit_or}
use Rattle.bitset.specs.Sets.{has, minus, single, lowest}
use Rattle.evidence.specs.Table.{Table}
use Rattle.theory.specs.Stars.{row, far}
use Rattle.theory.specs.Search.{agreed}

-- a is one of the two stars of w.
unfoldable pub star_of : Table → (ℕ → ℕ) → ℕ → ℕ → Bool
star_of t near a w = a == near w || a == far t w (near w)

-- The test of a star of v: at its lowest baseline all of it is asked, at any other only the lowest.
unfoldable pub quick : Table → (ℕ → ℕ) → ℕ → ℕ → Bool
quick t near v a = cond (lowest a == v) (agreed t near a) (star_of t near a (lowest a))

-- v is in its near star, which holds nothing but v and what shares with v.
unfoldable pub near_fits : Table → (ℕ → ℕ) → ℕ → Bool
near_fits t near v = has (near v) v && minus (near v) (bit_or (single v) (row t v)) == 0

-- The test at v.
unfoldable pub quick_at : Table → (ℕ → ℕ) → ℕ → Bool
quick_at t near v = near_fits t near v && (quick t near v (near v) && quick t near v (far t v (near v)))

-- The numbering of imagers: their stars in the order of their numbers, and the ends that this gives each baseline.
use Rattle.std.specs.Prelude.{ℕ, zero, suc, cond, List, [], ◌∷◌, ◌++◌, ◌==◌, nat_le}
use Rattle.bitset.specs.Sets.{has, drop, lowest}
use Rattle.evidence.specs.Table.{Table}
use Rattle.theory.specs.Layout.{Ends}
use Rattle.theory.specs.Stars.{far}

-- The second lowest baseline of a star, or 64 where there is none.
unfoldable pub second : ℕ → ℕ
second a = lowest (drop a (lowest a))

-- The star, where v is its lowest baseline.
unfoldable pub begun_by : ℕ → ℕ → List ℕ
begun_by v a = cond (lowest a == v) (a ∷ []) []

-- The stars that begin at v, of its two: the one with the lower second baseline first.
unfoldable pub begins : Table → (ℕ → ℕ) → ℕ → List ℕ
begins t near v = cond (nat_le (second (near v)) (second (far t v (near v))))
    (begun_by v (near v) ++ begun_by v (far t v (near v)))
    (begun_by v (far t v (near v)) ++ begun_by v (near v))

-- The stars that begin below n, in the order of the imagers' numbers.
unfoldable pub imagers : Table → (ℕ → ℕ) → ℕ → List ℕ
imagers t near zero = []
imagers t near (suc v) = imagers t near v ++ begins t near v

-- The place of the first star that v is in, or the length where there is none.
unfoldable pub place : ℕ → List ℕ → ℕ
place v [] = 0
place v (a ∷ stars) = cond (has a v) 0 (suc (place v stars))

-- The place of the second star that v is in, or the length where there is none.
unfoldable pub second_place : ℕ → List ℕ → ℕ
second_place v [] = 0
second_place v (a ∷ stars) = suc (cond (has a v) (place v stars) (second_place v stars))

-- The ends of v: the imagers are the places of their stars.
abbrev pub places_of : List ℕ → ℕ → Ends
places_of stars v = (place v stars, second_place v stars)

-- The stars of all imagers of a table, and the layout that their places give.
abbrev pub all_stars : Table → (ℕ → ℕ) → List ℕ
all_stars t near = imagers t near t.count

abbrev pub layout_of : Table → (ℕ → ℕ) → ℕ → Ends
layout_of t near = places_of (all_stars t near)

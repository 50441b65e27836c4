-- The starts of a cluster in the order of preference.
use Rattle.std.specs.Prelude.{◌≡◌, ℕ, Bool, true, false, List, [], ◌∷◌, filter, map, reverse, Some, None, Option}
use Rattle.bitset.specs.Sets.{members}
use Rattle.evidence.specs.Table.{Table}
use Rattle.theory.specs.Search.{passes}
use Rattle.layout.specs.declared.order.Starts.{Starts}
use Rattle.layout.specs.declared.order.Starts.TheVariants.{All, Crossing}
use Rattle.layout.specs.Near.{Begins}

-- The starts that are left: first the one that crosses none, then those with a cross, the highest first.
unfoldable pub starts_left : Starts → List (Option ℕ)
starts_left (All crosses) = None ∷ map Some (reverse (members crosses.bits))
starts_left (Crossing crosses) = map Some (reverse (members crosses.bits))

-- Of the starts that are left, those that pass.
abbrev pub left : Table → ℕ → Starts → List (Option ℕ)
left t r starts = filter (passes t r) (starts_left starts)

-- The first start that passes was found, with its near stars, and those after it are left; or none of them passes.
abbrev pub Found : Table → ℕ → Starts → Starts → (ℕ → ℕ) → Bool → Type 0
Found t r before after near true = (start : Option ℕ) × (left t r before ≡ start ∷ left t r after) × Begins t r start near
Found t r before after near false = left t r before ≡ []

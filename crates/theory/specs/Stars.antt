-- The star of an imager is the set of baselines at it. A layout without names is two stars for each baseline.
use Rattle.std.specs.Prelude.{◌≡◌, ℕ, ◌^◌, ◌<◌, Bool, true, false, cond, not, ◌&&◌, ◌||◌, bit_or}
use Rattle.bitset.specs.Sets.{has, minus, single, set_of}
use Rattle.evidence.specs.Table.{Table}

-- The baselines that share with i.
unfoldable pub row : Table → ℕ → ℕ
row t i = set_of (t.shares i) 64

-- The other star of v, given the one: v itself and those that share with v and are not in the one.
unfoldable pub far : Table → ℕ → ℕ → ℕ
far t v near = bit_or (single v) (minus (row t v) near)

-- The two stars of v, given the near one.
abbrev pub star : Table → (ℕ → ℕ) → ℕ → Bool → ℕ
star t near v side = cond side (near v) (far t v (near v))

-- Two stars for each baseline of a cluster: what shares with v is in one of them and not in the other,
-- and every baseline in a star has that star too.
pub record Stars (t : Table) (cluster : ℕ → Type 0) (st : ℕ → Bool → ℕ) : Type 0 where
  pub other : (v : ℕ) (s : Bool) → cluster v → far t v (st v s) ≡ st v (not s)
  pub along : (v : ℕ) (s : Bool) (w : ℕ) → cluster v → has (st v s) w ≡ true → (q : Bool) × (st v s ≡ st w q)
  pub inside : (v : ℕ) (s : Bool) (w : ℕ) → cluster v → has (st v s) w ≡ true → cluster w
  pub small : (v : ℕ) (s : Bool) → cluster v → st v s < 2 ^ 64

-- Three baselines have a star in common, told by the stars of the first.
abbrev pub star_trio : (ℕ → Bool → ℕ) → ℕ → ℕ → ℕ → Bool
star_trio st i j k = (has (st i true) j && has (st i true) k) || (has (st i false) j && has (st i false) k)

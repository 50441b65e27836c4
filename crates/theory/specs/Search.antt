-- The search, as functions on sets of baselines. docs/layout.md tells it in words.
use Rattle.std.specs.Prelude.{◌≡◌, ℕ, zero, suc, Bool, true, false, cond, not, ◌&&◌, ◌||◌, List, [], ◌∷◌, Some, None, Option, ◌==◌, bit_and, bit_or}
use Rattle.bitset.specs.Sets.{has, minus, single, lowest}
use Rattle.evidence.specs.Table.{Table}
use Rattle.theory.specs.Clusters.{Reach}
use Rattle.theory.specs.Stars.{row, far, star, Stars}
use Rattle.theory.specs.Walks.{walk, cluster}

-- The test passes at each number below n.
unfoldable pub all : (ℕ → Bool) → ℕ → Bool
all p zero = true
all p (suc n) = p n && all p n

-- ---- A start, and its spread

-- The baselines that share with r and with the lowest baseline that shares with r.
unfoldable pub between : Table → ℕ → ℕ
between t r = bit_and (row t r) (row t (lowest (row t r)))

-- A start of r crosses none, or one of these.
abbrev pub Start : Table → ℕ → Option ℕ → Type 0
Start t r None = Unit {0}
Start t r (Some x) = has (between t r) x ≡ true

-- The baselines of a start's cross: none, or the one.
abbrev pub crossed : Option ℕ → ℕ
crossed None = 0
crossed (Some x) = single x

-- The first star of a start: r, the lowest that shares with r, and those between but the cross. A lone baseline is alone in it.
unfoldable pub first : Table → ℕ → Option ℕ → ℕ
first t r cross = cond (row t r == 0) (single r)
    (bit_or (bit_or (single r) (single (lowest (row t r)))) (minus (between t r) (crossed cross)))

-- The star that p, whose near star is given, hands to v: the one of its two stars that v is in.
unfoldable pub handed : Table → ℕ → ℕ → ℕ → ℕ
handed t p near v = cond (has near v) near (far t p near)

-- v has its near star from the first star a of r, by steps of sharing of which each hands the star on.
pub data Handed (t : Table) (r a : ℕ) (near : ℕ → ℕ) : ℕ → Type 0 where
  start : near r ≡ a → Handed t r a near r
  hand : {p v : ℕ} → Handed t r a near p → t.shares p v ≡ true → near v ≡ handed t p (near p) v → Handed t r a near v

-- The near stars that the first star of r gives along the steps of a walk.
unfoldable pub spread : Table → ℕ → ℕ → List (ℕ × ℕ) → ℕ → ℕ
spread t r a [] v = cond (v == r) a 0
spread t r a (s ∷ steps) v =
    cond (v == s.1) (handed t s.0 (spread t r a steps s.0) v) (spread t r a steps v)

-- The near stars that a start gives to the cluster of r.
abbrev pub attempt : Table → ℕ → Option ℕ → ℕ → ℕ
attempt t r cross = spread t r (first t r cross) (walk t r).steps

-- ---- The test of what came out

-- Each baseline of the star a has that star.
unfoldable pub agreed : Table → (ℕ → ℕ) → ℕ → Bool
agreed t near a = all (λ w. not (has a w) || (a == near w || a == far t w (near w))) 64

-- v is in its near star, which holds nothing but v and what shares with v, and both stars are agreed on.
unfoldable pub fits_at : Table → (ℕ → ℕ) → ℕ → Bool
fits_at t near v =
    (has (near v) v && minus (near v) (bit_or (single v) (row t v)) == 0)
    && (agreed t near (near v) && agreed t near (far t v (near v)))

-- The near stars pass at each baseline of the cluster of r.
unfoldable pub verified : Table → ℕ → (ℕ → ℕ) → Bool
verified t r near = all (λ v. not (has (cluster t r) v) || fits_at t near v) 64

-- ---- The order of the starts

-- Whether a start passes.
abbrev pub passes : Table → ℕ → Option ℕ → Bool
passes t r cross = verified t r (attempt t r cross)

-- The starts that pass, of those whose cross is below k, the highest first.
unfoldable pub passing_below : Table → ℕ → ℕ → List (Option ℕ)
passing_below t r zero = []
passing_below t r (suc k) =
    cond (has (between t r) k && passes t r (Some k)) (Some k ∷ passing_below t r k) (passing_below t r k)

-- The starts that pass, in the order of preference: none crossed first, then the highest cross.
unfoldable pub passing : Table → ℕ → List (Option ℕ)
passing t r = cond (passes t r None) (None ∷ passing_below t r 64) (passing_below t r 64)

-- ---- A settled cluster

-- Whether a list has nothing in it.
abbrev pub is_nil : {A : Type 0} → List A → Bool
is_nil [] = true
is_nil (x ∷ xs) = false

-- The cluster of r is settled: the near stars are a system of stars that begins with the preferred start,
-- and the cluster is doubtful when another start passes too.
pub record Settled (t : Table) (r : ℕ) (near : ℕ → ℕ) (doubtful : Bool) : Type 0 where
  pub start : Option ℕ
  pub others : List (Option ℕ)
  pub preferred : passing t r ≡ start ∷ others
  pub stars : Stars t (Reach t r) (star t near)
  pub begins : near r ≡ first t r start
  pub doubt : doubtful ≡ not (is_nil others)

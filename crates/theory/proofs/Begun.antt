-- The list of the imagers' stars: each is a star of a baseline at which it begins, and there are at most two for each baseline.
use Rattle.std.proofs.Common.{◌≡◌, ℕ, zero, suc, ◌*◌, ◌<◌, ◌≤◌, Bool, true, false, eqb, [], ◌∷◌, ◌++◌, length, refl, arith, length-append}
use Rattle.std.specs.List.{AllByRecursion as All}
use Rattle.std.proofs.ByRecursion.{All-append, All-weaker, All-get_or}
use Rattle.std.proofs.lemmas.Bool.{cond_both, eqb-true}
use Rattle.bitset.specs.Sets.{lowest}
use Rattle.evidence.specs.Table.{Table}
use Rattle.theory.specs.Stars.{star, far}
use Rattle.theory.specs.Imagers.{begun_by, begins, imagers}
use Rattle.theory.proofs.Places.{nth_star}
use Rattle.theory.proofs.Begins.{begins_ways}

-- what holds of a star if it begins at v holds of it where it is listed for v
pub begun_all : (P : ℕ → Type 0) (v a : ℕ) → (lowest a ≡ v → P a) → All P (begun_by v a)
unfolding begun_by
begun_all P v a f = cond_both (eqb (lowest a) v) (a ∷ []) [] (All P) (λ e. (f (eqb-true _ v e), tt)) (λ e. tt)

-- what holds of the stars of v that begin at v holds of all that are listed for v
pub begins_all : (P : ℕ → Type 0) (t : Table) (near : ℕ → ℕ) (v : ℕ)
    → ((q : Bool) → lowest (star t near v q) ≡ v → P (star t near v q)) → All P (begins t near v)
begins_all P t near v f =
    begins_ways (All P) t near v
    (λ h. All-append P _ _ (begun_all P v _ (f true)) (begun_all P v _ (f false)))
    (λ h. All-append P _ _ (begun_all P v _ (f false)) (begun_all P v _ (f true)))

-- The star a is one of the table's that begin below w.
pub record Begun (t : Table) (near : ℕ → ℕ) (w a : ℕ) : Type 0 where
  pub at : ℕ
  pub side : Bool
  pub below : at < w
  pub is : a ≡ star t near at side
  pub begin : lowest a ≡ at

-- a star that begins below w begins below w + 1
later : {t : Table} {near : ℕ → ℕ} {w : ℕ} (a : ℕ) → Begun t near w a → Begun t near (suc w) a
later a b = record { at = b.at; side = b.side; below = omega (arith, b.below); is = b.is; begin = b.begin }

-- each star of the list is one of the table's
pub imagers_begun : (t : Table) (near : ℕ → ℕ) (w : ℕ) → All (Begun t near w) (imagers t near w)
unfolding imagers
imagers_begun t near zero = tt
imagers_begun t near (suc w) =
    All-append (Begun t near (suc w)) (imagers t near w) (begins t near w)
    (All-weaker (Begun t near w) (Begun t near (suc w)) later (imagers t near w) (imagers_begun t near w))
    (begins_all (Begun t near (suc w)) t near w (λ q h. record { at = w; side = q; below = omega arith; is = refl; begin = h }))

-- the star at each place is one of the table's
pub begun_at : (t : Table) (near : ℕ → ℕ) (w a : ℕ) → a < length (imagers t near w) → Begun t near w (nth_star (imagers t near w) a)
begun_at t near w a l = All-get_or (Begun t near w) (imagers t near w) a 0 l (imagers_begun t near w)

begun_length : (v a : ℕ) → length (begun_by v a) ≤ 1
unfolding begun_by
begun_length v a = cond_both (eqb (lowest a) v) (a ∷ []) [] (λ stars. length stars ≤ 1) (λ e. omega arith) (λ e. omega arith)

begins_length : (t : Table) (near : ℕ → ℕ) (v : ℕ) → length (begins t near v) ≤ 2
begins_length t near v = begins_ways (λ stars. length stars ≤ 2) t near v (λ h. both (near v) (far t v (near v))) (λ h. both (far t v (near v)) (near v))
  where
    both : (a b : ℕ) → length (begun_by v a ++ begun_by v b) ≤ 2
    both a b = omega (arith, length-append (begun_by v a) (begun_by v b), begun_length v a, begun_length v b)

-- there are at most two imagers for each baseline
pub imagers_length : (t : Table) (near : ℕ → ℕ) (w : ℕ) → length (imagers t near w) ≤ 2 * w
unfolding imagers
imagers_length t near zero = omega arith
imagers_length t near (suc w) =
    omega (arith, length-append (imagers t near w) (begins t near w), imagers_length t near w, begins_length t near w)

-- The stars of the imagers stand in the order of their lowest two baselines.
use Rattle.std.proofs.Common.{ℕ, zero, suc, ◌+◌, ◌*◌, ◌<◌, ◌≤◌, eqb, List, [], ◌∷◌, ◌++◌, length, arith}
use Rattle.std.specs.List.{AllByRecursion as All}
use Rattle.std.proofs.ByRecursion.{All-append, All-weaker, All-get_or}
use Rattle.std.proofs.lemmas.Bool.{cond_both}
use Rattle.bitset.specs.Sets.{lowest}
use Rattle.evidence.specs.Table.{Table}
use Rattle.theory.specs.Stars.{far}
use Rattle.theory.specs.Imagers.{second, begun_by, begins, imagers}
use Rattle.theory.proofs.Lowest.{second_le}
use Rattle.theory.proofs.Places.{nth_star}
use Rattle.theory.proofs.Begins.{begins_ways}
use Rattle.theory.proofs.Begun.{Begun, begun_all, begins_all, imagers_begun}

-- The rank of a star: by its lowest baseline, then by its second, none last.
abbrev pub rank : ℕ → ℕ
rank a = lowest a * 65 + second a

-- Each star has no higher rank than those after it.
abbrev Sorted : List ℕ → Type 0
Sorted [] = Unit {0}
Sorted (a ∷ stars) = All (λ b. rank a ≤ rank b) stars × Sorted stars

-- sorted lists one after the other are sorted where a rank c is between them
sorted_append : (c : ℕ) (stars more : List ℕ) → Sorted stars → Sorted more
    → All (λ a. rank a ≤ c) stars → All (λ b. c ≤ rank b) more → Sorted (stars ++ more)
sorted_append c [] more s m low high = m
sorted_append c (a ∷ stars) more s m low high = (
  All-append (λ b. rank a ≤ rank b) stars more s.0
      (All-weaker (λ b. c ≤ rank b) (λ b. rank a ≤ rank b) (λ b h. omega (arith, low.0)) more high),
  sorted_append c stars more s.1 m low.1 high,
)

-- in a sorted list the ranks rise with the places
sorted_at : (stars : List ℕ) → Sorted stars → (a b : ℕ) → a < b → b < length stars → rank (nth_star stars a) ≤ rank (nth_star stars b)
sorted_at [] s a b h l = absurd (omega arith)
sorted_at (c ∷ stars) s a zero h l = absurd (omega arith)
sorted_at (c ∷ stars) s zero (suc b) h l = All-get_or (λ d. rank c ≤ rank d) stars b 0 (omega arith) s.0
sorted_at (c ∷ stars) s (suc a) (suc b) h l = sorted_at stars s.1 a b (omega arith) (omega arith)

begun_sorted : (v a : ℕ) → Sorted (begun_by v a)
unfolding begun_by
begun_sorted v a = cond_both (eqb (lowest a) v) (a ∷ []) [] Sorted (λ e. (tt, tt)) (λ e. tt)

-- the stars that begin at v are sorted by their second baselines
begins_sorted : (t : Table) (near : ℕ → ℕ) (v : ℕ) → Sorted (begins t near v)
begins_sorted t near v = begins_ways Sorted t near v (both (near v) (far t v (near v))) (both (far t v (near v)) (near v))
  where
    both : (a b : ℕ) → second a ≤ second b → Sorted (begun_by v a ++ begun_by v b)
    both a b h =
        sorted_append (v * 65 + second a) (begun_by v a) (begun_by v b) (begun_sorted v a) (begun_sorted v b)
        (begun_all (λ c. rank c ≤ v * 65 + second a) v a (λ e. omega arith))
        (begun_all (λ c. v * 65 + second a ≤ rank c) v b (λ e. omega arith))

-- the stars that begin below w are sorted: those that begin at w come after those that begin below
imagers_sorted : (t : Table) (near : ℕ → ℕ) (w : ℕ) → Sorted (imagers t near w)
unfolding imagers
imagers_sorted t near zero = tt
imagers_sorted t near (suc w) =
    sorted_append (w * 65) (imagers t near w) (begins t near w) (imagers_sorted t near w) (begins_sorted t near w)
    (All-weaker (Begun t near w) (λ a. rank a ≤ w * 65) (λ a b. omega (arith, b.below, b.begin, second_le a))
    (imagers t near w) (imagers_begun t near w))
    (begins_all (λ a. w * 65 ≤ rank a) t near w (λ q h. omega arith))

-- the stars of imagers with rising numbers have rising ranks
pub rank_rises : (t : Table) (near : ℕ → ℕ) (w a b : ℕ) → a < b → b < length (imagers t near w)
    → rank (nth_star (imagers t near w) a) ≤ rank (nth_star (imagers t near w) b)
rank_rises t near w = sorted_at (imagers t near w) (imagers_sorted t near w)

-- The first star of a start, as it is computed, and tests that a start which passes does not fail.
use Rattle.std.proofs.Common.{◌≡◌, ℕ, ◌^◌, ◌<◌, Bool, true, false, not, ◌&&◌, ◌||◌, eqb, ◌≢◌, ◌⊎◌, Some, Option, sym, refl, ap, ◌∙◌, ap₂, inl, inr, arith}
use mathlib.Core.Bool.{and-true}
use lib.Bits.{bit_and, bit_or}
use Rattle.std.proofs.lemmas.Bool.{or_left, or_right, eq-eqb, ne_eqb, cond-true, cond-false, cases_eq}
use Rattle.std.proofs.lemmas.Bool.Decides.{nat_tests}
use Rattle.bitset.specs.Sets.{has, minus, single, put, lowest}
use Rattle.bitset.proofs.Members.{has_minus, has_none, has_single, has_or, same_set, empty_set, minus_lt}
use Rattle.evidence.specs.Table.{Table, Sound}
use Rattle.theory.specs.Stars.{row}
use Rattle.theory.specs.Search.{between, crossed, first, passes}
use Rattle.theory.proofs.Rows.{row_has}
use Rattle.theory.proofs.Starts.{first_clique, cross_between}
use Rattle.theory.proofs.Cluster.{attempt_start, pass_stars}
use Rattle.layout.proofs.Tells.{put_is}

-- without none, a set stays as it is
pub minus_none : (m : ℕ) → m < 2 ^ 64 → m ≡ minus m 0
minus_none m l = same_set 64 _ _ l (minus_lt 64 m 0 l) (λ k _. sym (has_minus m 0 k ∙ ap (λ b. has m k && not b) (has_none k) ∙ and-true (has m k)))

-- a set without x
pub minus_one : (m m' x : ℕ) → m < 2 ^ 64 → m' < 2 ^ 64 → ((k : ℕ) → has m' k ≡ (has m k && not (eqb k x))) → m' ≡ minus m (single x)
minus_one m m' x l l' is =
    same_set 64 _ _ l' (minus_lt 64 m (single x) l)
    (λ k _. is k ∙ ap (λ b. has m k && not b) (turn k x ∙ sym (has_single x k)) ∙ sym (has_minus m (single x) k))
  where
    turn : (k x : ℕ) → eqb k x ≡ eqb x k
    turn k x = grind (arith, nat_tests)

module _ (t : Table) (r s : ℕ) where
  -- the baselines between r and s
  pub between_none : row t r ≡ 0 → row t r ≡ between t r
  unfolding between
  between_none e = e ∙ sym (ap (λ m. bit_and m (row t (lowest (row t r)))) e)

  -- and where some do
  pub between_some : s ≡ lowest (row t r) → bit_and (row t r) (row t s) ≡ between t r
  unfolding between
  between_some e = ap (λ x. bit_and (row t r) (row t x)) e

  -- the first star
  pub first_alone : (x : Option ℕ) → r < 64 → row t r ≡ 0 → put 0 r ≡ first t r x
  unfolding first
  first_alone x l e = put_is 0 r l ∙ sym (cond-true _ _ _ (eq-eqb _ _ e))

  -- and with others
  pub first_with : (x : Option ℕ) → r < 64 → s < 64 → row t r ≢ 0 → s ≡ lowest (row t r)
      → bit_or (put (put 0 r) s) (minus (between t r) (crossed x)) ≡ first t r x
  unfolding first
  first_with x l k ne e =
      ap (λ m. bit_or m (minus (between t r) (crossed x)))
      (put_is (put 0 r) s k ∙ ap₂ bit_or (put_is 0 r l) (ap single e))
      ∙ sym (cond-false _ _ _ (ne_eqb _ _ ne))

-- ---- what can pass

-- a clique holds nothing but v and what shares with v
pub clique_within : (t : Table) → Sound t → (a v : ℕ) → a < 2 ^ 64 → v < 64
    → ((w : ℕ) → has a w ≡ true → v ≢ w → t.shares v w ≡ true) → minus a (put (row t v) v) ≡ 0
clique_within t sound a v l lv clique =
    empty_set 64 _ (minus_lt 64 a _ l) (λ k _. has_minus a _ k ∙ outside k (cases_eq v k))
  where
    own : (k : ℕ) → has (put (row t v) v) k ≡ (has (row t v) k || eqb v k)
    own k = ap (λ m. has m k) (put_is (row t v) v lv) ∙ has_or (row t v) (single v) k ∙ ap (λ b. has (row t v) k || b) (has_single v k)

    out : (x y : Bool) → (x ≡ true → y ≡ true) → (x && not y) ≡ false
    out true y h = ap not (h refl)
    out false y h = refl

    outside : (k : ℕ) → (v ≡ k) ⊎ (v ≡ k → ⊥) → (has a k && not (has (put (row t v) v) k)) ≡ false
    outside k (inl e) = out _ _ (λ _. own k ∙ or_right _ _ (eq-eqb v k e))
    outside k (inr ne) = out _ _ (λ h. own k ∙ or_left _ _ (row_has t sound v k ∙ clique k h ne))

module _ (t : Table) (sound : Sound t) (r : ℕ) (below : r < t.count) (low : r < 64) where
  -- the first star of a start that passes is a clique
  pub pass_clique : (x : Option ℕ) → passes t r x ≡ true → (v w : ℕ) → has (first t r x) v ≡ true → has (first t r x) w ≡ true → v ≢ w → t.shares v w ≡ true
  pass_clique x h = first_clique t sound r low (pass_stars t sound r below x h) true x (attempt_start t sound r below x)

  -- and its cross shares with none between
  pub pass_cross : (x : ℕ) → has (between t r) x ≡ true → passes t r (Some x) ≡ true → bit_and (row t x) (between t r) ≡ 0
  pass_cross x b h = cross_between t sound r low (pass_stars t sound r below (Some x) h) true x b (attempt_start t sound r below (Some x))

-- Every system of stars on the cluster of r has the first star of a start.
use Rattle.std.proofs.Common.{◌≡◌, ℕ, ◌^◌, ◌<◌, Bool, true, false, not, ◌&&◌, ◌||◌, eqb, ◌≢◌, ◌⊎◌, Some, None, Option, sym, ap, ◌∙◌, inl, inr, ⊎_elim, arith}
use mathlib.Core.Bool.{or-false}
use lib.Bits.{bit_and, and_lt}
use Rattle.std.proofs.lemmas.Bool.{and_parts, and_from, not-true, eqb-true, eqb-false, eq-eqb, ne_eqb, cases_Bool, cases_eq, both_ways, false_from_ne_true}
use Rattle.std.proofs.lemmas.Bool.Decides.{nat_tests}
use Rattle.bitset.specs.Sets.{has, minus, single, lowest}
use Rattle.bitset.proofs.Members.{has_and, has_minus, has_single, single_has, has_none, same_set, empty_set, minus_lt, single_lt, lowest_is}
use Rattle.evidence.specs.Table.{Table, Sound}
use Rattle.theory.specs.Clusters.{Reach, here}
use Rattle.theory.specs.Stars.{row, Stars}
use Rattle.theory.specs.Search.{Start, between, crossed, first}
use Rattle.theory.proofs.Rows.{row_has, row_lt}
use Rattle.theory.proofs.StarFacts.{shares_star, star_self, star_has, star_shares, star_clique}
use Rattle.theory.proofs.Crosses.{Crosses, cross_one, cross_alone}
use Rattle.theory.proofs.Firsts.{between_has, between_lt, between_shares, between_shared, first_lt, first_lone, first_has, first_second, first_between, lowest_shares}

-- a set of which all members are equal is empty or has one member
at_most_one : (m : ℕ) → m < 2 ^ 64 → ((i j : ℕ) → has m i ≡ true → has m j ≡ true → i ≡ j)
    → (m ≡ 0) ⊎ ((c : ℕ) × (has m c ≡ true) × (m ≡ single c))
at_most_one m l same = ⊎_elim inl (λ ne. inr (one ne)) (cases_eq m 0)
  where
    one : (m ≡ 0 → ⊥) → (c : ℕ) × (has m c ≡ true) × (m ≡ single c)
    one ne =
        let low = lowest_is m ne l in
        let c = low.member in (
          lowest m,
          c,
          same_set 64 m _ l (single_lt 64 _ low.below) (λ i q.
              ⊎_elim
              (λ h. h ∙ sym (has_single _ i ∙ eq-eqb _ i (same _ i c h)))
              (λ h. h ∙ sym (has_single _ i ∙ ne_eqb _ i (λ e. both_ways _ h (ap (has m) (sym e) ∙ c))))
              (cases_Bool (has m i))),
        )

-- a set a that holds two baselines, and else only what is between, holds just these two and what is between and not missing from it
fill : (er es b a : Bool) → (er ≡ true → a ≡ true) → (es ≡ true → a ≡ true) → (er ≡ false → es ≡ false → a ≡ true → b ≡ true)
    → a ≡ ((er || es) || (b && not (b && not a)))
fill er es b a h k l = grind (arith, nat_tests)

module _ (t : Table) (sound : Sound t) (r : ℕ) (below : r < 64) {st : ℕ → Bool → ℕ} (good : Stars t (Reach t r) st) where
  -- a lone baseline is alone in its stars
  lone_star : (q : Bool) → row t r ≡ 0 → st r q ≡ single r
  lone_star q lone = same_set 64 _ _ (good.small r q here) (single_lt 64 r below) (λ i l. star_has sound good r q i here ∙ only i)
    where
      only : (i : ℕ) → (eqb r i || (t.shares r i && not (has (st r (not q)) i))) ≡ has (single r) i
      only i =
          let none : t.shares r i ≡ false = sym (row_has t sound r i) ∙ ap (λ m. has m i) lone ∙ has_none i in
          simp (none, has_single) (or-false (eqb r i))

  module _ (q : Bool) (shared : row t r ≢ 0) (common : has (st r q) (lowest (row t r)) ≡ true) where
    -- in the common star of r and the lowest that shares with r are these two, and what is between and not missing from it
    common_has : (i : ℕ)
        → has (st r q) i ≡ ((eqb r i || eqb (lowest (row t r)) i) || (has (between t r) i && not (has (between t r) i && not (has (st r q) i))))
    common_has i =
        fill (eqb r i) (eqb (lowest (row t r)) i) (has (between t r) i) (has (st r q) i)
        (λ p. ap (has (st r q)) (sym (eqb-true r i p)) ∙ star_self sound good r q here)
        (λ p. ap (has (st r q)) (sym (eqb-true _ i p)) ∙ common)
        (λ p k h. between_has t sound r i ∙ and_from _ _
        (star_shares sound good r q i here h (eqb-false r i p))
        (star_clique sound good r q _ i here common h (eqb-false _ i k)))

    -- it is the first star of a start that crosses just what is between and not in it
    common_first : (x : Option ℕ) → crossed x ≡ minus (between t r) (st r q) → st r q ≡ first t r x
    common_first x e =
        same_set 64 _ _ (good.small r q here) (first_lt t sound r x below)
        (λ i l. common_has i ∙ sym (first_has t sound r shared x i ∙ simp (e, has_minus)))

    -- what is between and not in the common star crosses
    crosses : (i : ℕ) → has (minus (between t r) (st r q)) i ≡ true → Crosses t r (lowest (row t r)) (st r q) i
    crosses i h =
        let p = and_parts _ _ (sym (has_minus _ _ i) ∙ h) in
        let k = between_shares t sound r i p.0 in
        (k.0, k.1, not-true _ p.1)

    -- there is such a start
    common_start : (p : Bool) × (x : Option ℕ) × Start t r x × (st r p ≡ first t r x)
    common_start =
        ⊎_elim
        (λ e. (q, None, tt, common_first None (sym e)))
        (λ c. (q, Some c.0, (and_parts _ _ (sym (has_minus _ _ _) ∙ c.1)).0, common_first (Some c.0) (sym c.2)))
        (at_most_one (minus (between t r) (st r q)) (minus_lt 64 _ _ (between_lt t sound r)) same)
      where
        same : (i j : ℕ) → has (minus (between t r) (st r q)) i ≡ true → has (minus (between t r) (st r q)) j ≡ true → i ≡ j
        same i j h k = cross_one sound good r _ q here (lowest_shares t sound r shared) common i j (crosses i h) (crosses j k)

  -- one of the two stars of r is the first star of a start
  pub start_of : (q : Bool) × (x : Option ℕ) × Start t r x × (st r q ≡ first t r x)
  start_of =
      ⊎_elim
      (λ lone. (true, None, tt, lone_star true lone ∙ sym (first_lone t sound r None lone)))
      (λ shared. let c = shares_star sound good r _ here (lowest_shares t sound r shared) in common_start c.0 shared c.1)
      (cases_eq (row t r) 0)

  -- a first star is a clique
  pub first_clique : (q : Bool) (x : Option ℕ) → st r q ≡ first t r x
      → (v w : ℕ) → has (first t r x) v ≡ true → has (first t r x) w ≡ true → v ≢ w → t.shares v w ≡ true
  first_clique q x e v w h k ne =
      star_clique sound good r q v w here (ap (λ a. has a v) e ∙ h) (ap (λ a. has a w) e ∙ k) ne

  -- the cross of a start shares with no other baseline between
  pub cross_between : (q : Bool) (x : ℕ) → has (between t r) x ≡ true → st r q ≡ first t r (Some x) → bit_and (row t x) (between t r) ≡ 0
  cross_between q x b e =
      empty_set 64 _ (and_lt 64 _ _ (row_lt t x) (between_lt t sound r))
      (λ y l. false_from_ne_true _ (alone y))
    where
      crosses_x : Crosses t r (lowest (row t r)) (st r q) x
      crosses_x =
          let p = between_shares t sound r x b in
          (p.0, p.1, ap (λ a. has a x) e ∙ first_between t sound r (Some x) x b ∙ ap not (single_has x))

      alone : (y : ℕ) → has (bit_and (row t x) (between t r)) y ≡ true → ⊥
      alone y h =
          let shared = between_shared t sound r x b in
          let p = and_parts _ _ (sym (has_and _ _ y) ∙ h) in
          let k = between_shares t sound r y p.1 in
          cross_alone sound good r _ q here (lowest_shares t sound r shared)
          (ap (λ a. has a (lowest (row t r))) e ∙ first_second t sound r shared (Some x))
          x y crosses_x k.0 k.1 (sym (row_has t sound x y) ∙ p.0)

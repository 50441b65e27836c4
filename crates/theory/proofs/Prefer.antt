-- Of two systems of stars with different starts, the one with the earlier start has the first three that differs.
use Rattle.std.proofs.Common.{◌≡◌, ℕ, ◌<◌, ◌≤◌, Bool, true, false, not, ◌≢◌, ◌⊎◌, Some, None, Option, sym, refl, ap, ◌∙◌, ap₂, inl, inr, ⊎_elim, arith}
use mathlib.Core.Bool.{or-false}
use Rattle.std.proofs.lemmas.Bool.{ne_eqb, cases_lt, cases_order, both_ways, false_from_ne_true}
use Rattle.bitset.specs.Sets.{has, lowest}
use Rattle.bitset.proofs.Members.{has_single, single_has, has_none}
use Rattle.evidence.specs.Table.{Table, Sound}
use Rattle.theory.specs.Groups.{Three, Sooner}
use Rattle.theory.specs.Clusters.{Reach, here, step}
use Rattle.theory.specs.Stars.{row, Stars, star_trio}
use Rattle.theory.specs.Search.{Start, crossed, first}
use Rattle.theory.proofs.StarFacts.{shares_apart, star_meet, trio_shares_first, trio_side}
use Rattle.theory.proofs.Firsts.{between_shares, between_shared, first_has, first_second, first_between, lowest_shares, lower_shares}

-- the start x comes before the start y: the one that crosses none first, then the highest cross
abbrev pub Earlier : Option ℕ → Option ℕ → Type 0
Earlier x None = ⊥
Earlier None (Some d) = Unit {0}
Earlier (Some c) (Some d) = d < c

-- of two different starts one is earlier
pub earlier_cases : (x y : Option ℕ) → x ≢ y → Earlier x y ⊎ Earlier y x
earlier_cases None None ne = absurd (ne refl)
earlier_cases None (Some d) ne = inl tt
earlier_cases (Some c) None ne = inr tt
earlier_cases (Some c) (Some d) ne = ⊎_elim (λ e. absurd (ne (ap Some e))) (⊎_elim inr inl) (cases_order c d)

-- one system of stars is preferred to another on the cluster of r: it has the first three on which they differ
pub record Preferred (t : Table) (r : ℕ) (one two : ℕ → Bool → ℕ) : Type 0 where
  pub three : Three
  pub in_cluster : Reach t r three.0 × Reach t r three.1 × Reach t r three.2
  pub rising : (three.0 < three.1) × (three.1 < three.2)
  pub ours : star_trio one three.0 three.1 three.2 ≡ true
  pub theirs : star_trio two three.0 three.1 three.2 ≡ false
  pub agree : (i j k : ℕ) → Reach t r i → Reach t r j → Reach t r k → i < j → j < k → Sooner (i, j, k) three
      → star_trio one i j k ≡ star_trio two i j k

-- up to d, a start before the one that crosses d crosses none
crossed_before : (x : Option ℕ) (d k : ℕ) → Earlier x (Some d) → k ≤ d → has (crossed x) k ≡ false
crossed_before None d k b l = has_none k
crossed_before (Some c) d k b l = has_single c k ∙ ne_eqb c k (λ e. omega arith)

module _ {t : Table} (sound : Sound t) {r : ℕ} {st : ℕ → Bool → ℕ} (good : Stars t (Reach t r) st) where
  -- what does not share is in no three
  trio_none : (i j k : ℕ) → Reach t r i → i ≢ j → t.shares i j ≡ false → star_trio st i j k ≡ false
  trio_none i j k c ne h =
      false_from_ne_true (star_trio st i j k) (λ y. both_ways _ h (trio_shares_first sound good i j k c y ne))

  -- the threes of r and one in its one star are told by that star
  trio_in : (s k : ℕ) (q : Bool) → t.shares r s ≡ true → has (st r q) s ≡ true → star_trio st r s k ≡ has (st r q) k
  trio_in s k q share h = trio_side st r s k q ∙ simp (h, gone) (or-false (has (st r q) k))
    where
      gone : has (st r (not q)) s ≡ false
      gone = false_from_ne_true _ (λ l. shares_apart sound r s share (star_meet sound good r q s here h l))

  -- the threes of r and the lowest that shares with r are told by the first star
  first_trio : (q : Bool) (x : Option ℕ) → row t r ≢ 0 → st r q ≡ first t r x
      → (k : ℕ) → star_trio st r (lowest (row t r)) k ≡ has (first t r x) k
  first_trio q x shared e k =
      let there : has (st r q) (lowest (row t r)) ≡ true = ap (λ a. has a (lowest (row t r))) e ∙ first_second t sound r shared x in
      trio_in _ k q (lowest_shares t sound r shared) there ∙ ap (λ a. has a k) e

module _ {t : Table} (sound : Sound t) {r : ℕ} (root : (j : ℕ) → Reach t r j → r ≤ j) {one two : ℕ → Bool → ℕ}
    (good : Stars t (Reach t r) one) (fine : Stars t (Reach t r) two) where
  -- of two systems of stars on the cluster of its root r, the one with the earlier start is preferred
  pub earlier_preferred : (x y : Option ℕ) → Start t r y → Earlier x y
      → (q p : Bool) → one r q ≡ first t r x → two r p ≡ first t r y → Preferred t r one two
  earlier_preferred x None b before q p e f = absurd before
  earlier_preferred x (Some d) b before q p e f = record {
    three = (r, s, d);
    in_cluster = (here, step here (lowest_shares t sound r shared), step here rd);
    rising = (r_s, s_d);
    ours = first_trio sound good q x shared e d ∙ first_between t sound r x d b ∙ ap not (crossed_before x d d before (omega arith));
    theirs = first_trio sound fine p (Some d) shared f d ∙ first_between t sound r (Some d) d b ∙ ap not (single_has d);
    agree = agree;
  }
    where
      shared : row t r ≢ 0
      shared = between_shared t sound r d b

      rd : t.shares r d ≡ true
      rd = (between_shares t sound r d b).0

      s : ℕ
      s = lowest (row t r)

      r_s : r < s
      r_s = let rs = lowest_shares t sound r shared in let ne = shares_apart sound r s rs in omega (arith, root s (step here rs))

      s_d : s < d
      s_d =
          let ne = shares_apart sound s d (between_shares t sound r d b).1 in
          ⊎_elim (λ l. absurd (both_ways _ (lower_shares t sound r shared d l) rd)) (λ l. omega arith) (cases_lt d s)

      same_first : (k : ℕ) → k < d → has (first t r x) k ≡ has (first t r (Some d)) k
      same_first k l =
          first_has t sound r shared x k
          ∙ (simp (crossed_before x d k before (omega arith), ne_eqb d k (λ e. omega arith), has_single))
          ∙ sym (first_has t sound r shared (Some d) k)

      agree : (i j k : ℕ) → Reach t r i → Reach t r j → Reach t r k → i < j → j < k → Sooner (i, j, k) (r, s, d)
          → star_trio one i j k ≡ star_trio two i j k
      agree i j k ci cj ck ij jk (inl l) = absurd (omega (arith, root i ci))
      agree i j k ci cj ck ij jk (inr (ir, inl l)) =
          let none : t.shares i j ≡ false = ap (λ x. t.shares x j) ir ∙ lower_shares t sound r shared j l in
          trio_none sound good i j k ci (λ e. omega arith) none ∙ sym (trio_none sound fine i j k ci (λ e. omega arith) none)
      agree i j k ci cj ck ij jk (inr (ir, inr (js, l))) =
          ap₂ (λ a b. star_trio one a b k) ir js
          ∙ first_trio sound good q x shared e k
          ∙ same_first k l
          ∙ sym (first_trio sound fine p (Some d) shared f k)
          ∙ sym (ap₂ (λ a b. star_trio two a b k) ir js)

-- The first star of a start: which baselines are in it.
use Rattle.std.proofs.Common.{◌≡◌, ℕ, ◌^◌, ◌<◌, true, false, not, ◌&&◌, ◌||◌, eqb, ◌≢◌, Option, sym, refl, ap, ◌∙◌}
use lib.Bits.{or_lt, and_lt}
use Rattle.std.proofs.lemmas.Bool.{and_parts, or_left, or_right, eq-eqb, ne_eqb, eqb-false, cond-true, cond-false, cond_both}
use Rattle.bitset.specs.Sets.{has, single, lowest}
use Rattle.bitset.proofs.Members.{has_and, has_or, has_minus, has_single, not_empty, minus_lt, single_lt, lowest_is}
use Rattle.evidence.specs.Table.{Table, Sound}
use Rattle.theory.specs.Stars.{row}
use Rattle.theory.specs.Search.{between, crossed, first}
use Rattle.theory.proofs.Rows.{row_has, row_lt}
use Rattle.theory.proofs.StarFacts.{shares_apart}

module _ (t : Table) (sound : Sound t) (r : ℕ) where
  -- the baselines between share with r and with the lowest baseline that shares with r
  pub between_has : (i : ℕ) → has (between t r) i ≡ (t.shares r i && t.shares (lowest (row t r)) i)
  unfolding between
  between_has i = simp (has_and, row_has t sound)

  -- both facts, of one that is between
  pub between_shares : (i : ℕ) → has (between t r) i ≡ true → (t.shares r i ≡ true) × (t.shares (lowest (row t r)) i ≡ true)
  between_shares i h = and_parts _ _ (sym (between_has i) ∙ h)

  -- they are a set of baselines
  pub between_lt : between t r < 2 ^ 64
  unfolding between
  between_lt = and_lt 64 _ _ (row_lt t r) (row_lt t _)

  -- where some baseline is between, r is not alone
  pub between_shared : (i : ℕ) → has (between t r) i ≡ true → row t r ≢ 0
  between_shared i h = not_empty (row t r) i (row_has t sound r i ∙ (between_shares i h).0)

  -- the first star is a set of baselines
  pub first_lt : (x : Option ℕ) → r < 64 → first t r x < 2 ^ 64
  unfolding first
  first_lt x l =
      let own = single_lt 64 r l in
      cond_both (eqb (row t r) 0) _ _ (λ a. a < 2 ^ 64)
      (λ _. own)
      (λ e. let low = lowest_is (row t r) (eqb-false _ _ e) (row_lt t r) in
      or_lt 64 _ _ (or_lt 64 _ _ own (single_lt 64 _ low.below)) (minus_lt 64 _ _ between_lt))

  -- a lone baseline is alone in the first star
  pub first_lone : (x : Option ℕ) → row t r ≡ 0 → first t r x ≡ single r
  unfolding first
  first_lone x lone = cond-true _ _ _ (eq-eqb _ _ lone)

  module _ (shared : row t r ≢ 0) where
    -- the lowest that shares with r does share with r
    pub lowest_shares : t.shares r (lowest (row t r)) ≡ true
    lowest_shares = sym (row_has t sound r _) ∙ (lowest_is (row t r) shared (row_lt t r)).member

    -- and no lower one does
    pub lower_shares : (j : ℕ) → j < lowest (row t r) → t.shares r j ≡ false
    lower_shares j l = sym (row_has t sound r j) ∙ (lowest_is (row t r) shared (row_lt t r)).least j l

    -- the first star holds these two, and what is between and not crossed
    pub first_has : (x : Option ℕ) (i : ℕ)
        → has (first t r x) i ≡ ((eqb r i || eqb (lowest (row t r)) i) || (has (between t r) i && not (has (crossed x) i)))
    unfolding first
    first_has x i = ap (λ a. has a i) (cond-false _ _ _ (ne_eqb _ _ shared)) ∙ simp (has_or, has_single, has_minus)

    -- the lowest that shares with r is in the first star
    pub first_second : (x : Option ℕ) → has (first t r x) (lowest (row t r)) ≡ true
    first_second x =
        first_has x _ ∙ or_left (eqb r (lowest (row t r)) || _) _ (or_right _ _ (eq-eqb (lowest (row t r)) _ refl))

  -- of the baselines between, the first star lacks just the cross
  pub first_between : (x : Option ℕ) (i : ℕ) → has (between t r) i ≡ true → has (first t r x) i ≡ not (has (crossed x) i)
  first_between x i h =
      let b = between_shares i h in
      let p : eqb r i ≡ false = ne_eqb r i (shares_apart sound r i b.0) in
      let q : eqb (lowest (row t r)) i ≡ false = ne_eqb _ i (shares_apart sound _ i b.1) in
      first_has (between_shared i h) x i ∙ simp (p, q, h)

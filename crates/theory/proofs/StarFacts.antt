-- What holds of every system of stars: which baselines are in a star, and that two baselines fix the star they are in.
use Rattle.std.proofs.Common.{◌≡◌, ℕ, ◌^◌, ◌<◌, Bool, true, false, not, ◌&&◌, ◌||◌, eqb, ◌≢◌, sym, refl, ap, ◌∙◌, ap₂, ⊎_elim, arith}
use mathlib.Core.Bool.{and_comm, or_comm}
use lib.Bits.{or_lt}
use Rattle.std.proofs.lemmas.Bool.{and_parts, and_from, or_cases, or_left, or_right, eq-eqb, ne_eqb, eqb-true, cases_Bool, both_ways}
use Rattle.std.proofs.lemmas.Bool.Decides.{nat_tests, same_from_decides}
use Rattle.bitset.specs.Sets.{has}
use Rattle.bitset.proofs.Members.{has_or, has_minus, has_single, minus_lt, single_lt}
use Rattle.evidence.specs.Table.{Table, Sound}
use Rattle.theory.specs.Stars.{far, Stars, star_trio}
use Rattle.theory.proofs.Rows.{row_has, row_lt}
use Rattle.theory.proofs.Ends.{one_or_other}

-- what shares with v is not v
pub shares_apart : {t : Table} → Sound t → (v w : ℕ) → t.shares v w ≡ true → v ≢ w
shares_apart {t} sound v w h e = both_ways _ (sound.apart v) (ap (t.shares v) e ∙ h)

-- the other star of v holds v, and what shares with v and is not in the one
pub far_has : {t : Table} → Sound t → (v a i : ℕ) → has (far t v a) i ≡ (eqb v i || (t.shares v i && not (has a i)))
unfolding far
far_has {t} sound v a i = simp (has_or, has_single, has_minus, row_has t sound v i)

-- it is a set of baselines
pub far_lt : (t : Table) (v a : ℕ) → v < 64 → far t v a < 2 ^ 64
unfolding far
far_lt t v a l = or_lt 64 _ _ (single_lt 64 v l) (minus_lt 64 _ _ (row_lt t v))

-- the formula of a star, read three ways: what is in both stars, what is in the other, what is near v
in_both : (x r a b : Bool) → a ≡ (x || (r && not b)) → a ≡ true → b ≡ true → x ≡ true
in_both x r a b e h k = grind (arith, nat_tests)

in_one : (x r a b : Bool) → a ≡ (x || (r && not b)) → r ≡ true → a ≡ false → b ≡ true
in_one x r a b e h k = grind (arith, nat_tests)

in_near : (x r a b : Bool) → a ≡ (x || (r && not b)) → a ≡ true → x ≡ false → r ≡ true
in_near x r a b e h k = grind (arith, nat_tests)

-- where three have a star in common, a star of the first holds the others
pub trio_star : (st : ℕ → Bool → ℕ) (i j k : ℕ) → star_trio st i j k ≡ true
    → (s : Bool) × (has (st i s) j ≡ true) × (has (st i s) k ≡ true)
trio_star st i j k h =
    ⊎_elim
    (λ p. let x = and_parts _ _ p in (true, x.0, x.1))
    (λ p. let x = and_parts _ _ p in (false, x.0, x.1))
    (or_cases (has (st i true) j && has (st i true) k) _ h)

-- where a star of the first holds the others, three have a star in common
pub star_has_trio : (st : ℕ → Bool → ℕ) (i j k : ℕ) (s : Bool) → has (st i s) j ≡ true → has (st i s) k ≡ true → star_trio st i j k ≡ true
star_has_trio st i j k true h l = or_left _ _ (and_from _ _ h l)
star_has_trio st i j k false h l = or_right _ _ (and_from _ _ h l)

-- a three is told by the two stars of the first, in either order
pub trio_side : (st : ℕ → Bool → ℕ) (i j k : ℕ) (s : Bool)
    → star_trio st i j k ≡ ((has (st i s) j && has (st i s) k) || (has (st i (not s)) j && has (st i (not s)) k))
trio_side st i j k true = refl
trio_side st i j k false = or_comm (has (st i true) j && has (st i true) k) (has (st i false) j && has (st i false) k)

-- the order of the last two does not matter
pub trio_swaps_last : (st : ℕ → Bool → ℕ) (i j k : ℕ) → star_trio st i j k ≡ star_trio st i k j
trio_swaps_last st i j k =
    ap₂ ◌||◌ (and_comm (has (st i true) j) (has (st i true) k)) (and_comm (has (st i false) j) (has (st i false) k))

module _ {t : Table} (sound : Sound t) {C : ℕ → Type 0} {st : ℕ → Bool → ℕ} (good : Stars t C st) where
  -- each star of v is the other one to the other
  star_far : (v : ℕ) (s : Bool) → C v → st v s ≡ far t v (st v (not s))
  star_far v true c = sym (good.other v false c)
  star_far v false c = sym (good.other v true c)

  -- a star of v holds v, and what shares with v and is not in its other star
  pub star_has : (v : ℕ) (s : Bool) (i : ℕ) → C v → has (st v s) i ≡ (eqb v i || (t.shares v i && not (has (st v (not s)) i)))
  star_has v s i c = ap (λ x. has x i) (star_far v s c) ∙ far_has sound v _ i

  -- v is in both its stars
  pub star_self : (v : ℕ) (s : Bool) → C v → has (st v s) v ≡ true
  star_self v s c = star_has v s v c ∙ or_left _ _ (eq-eqb v v refl)

  -- the two stars of v meet only in v
  pub star_meet : (v : ℕ) (s : Bool) (w : ℕ) → C v → has (st v s) w ≡ true → has (st v (not s)) w ≡ true → v ≡ w
  star_meet v s w c h k = eqb-true v w (in_both _ _ _ _ (star_has v s w c) h k)

  -- what shares with v and is not in its one star is in the other
  pub star_rest : (v : ℕ) (s : Bool) (w : ℕ) → C v → t.shares v w ≡ true → has (st v s) w ≡ false → has (st v (not s)) w ≡ true
  star_rest v s w c h k = in_one _ _ _ _ (star_has v s w c) h k

  -- what shares with v is in a star of v
  pub shares_star : (v w : ℕ) → C v → t.shares v w ≡ true → (s : Bool) × (has (st v s) w ≡ true)
  shares_star v w c h = ⊎_elim (λ p. (true, p)) (λ p. (false, star_rest v true w c h p)) (cases_Bool (has (st v true) w))

  -- what is in a star of v, and is not v, shares with v
  pub star_shares : (v : ℕ) (s : Bool) (w : ℕ) → C v → has (st v s) w ≡ true → v ≢ w → t.shares v w ≡ true
  star_shares v s w c h ne = in_near _ _ _ _ (star_has v s w c) h (ne_eqb v w ne)

  -- the baselines of a star share with each other
  pub star_clique : (i : ℕ) (s : Bool) (v w : ℕ) → C i → has (st i s) v ≡ true → has (st i s) w ≡ true → v ≢ w → t.shares v w ≡ true
  star_clique i s v w c h k ne =
      let a = good.along i s v c h in
      star_shares v a.0 w (good.inside i s v c h) (ap (λ x. has x w) (sym a.1) ∙ k) ne

  -- two stars with two baselines in common are equal
  pub star_same : (i j : ℕ) (s q : Bool) (v w : ℕ) → C i → C j → v ≢ w
      → has (st i s) v ≡ true → has (st i s) w ≡ true → has (st j q) v ≡ true → has (st j q) w ≡ true → st i s ≡ st j q
  star_same i j s q v w ci cj ne iv iw jv jw =
      let a = good.along i s v ci iv in
      let b = good.along j q v cj jv in
      let one : has (st v b.0) w ≡ true = ap (λ x. has x w) (sym b.1) ∙ jw in
      let two : has (st v a.0) w ≡ true = ap (λ x. has x w) (sym a.1) ∙ iw in
      ⊎_elim
      (λ e. a.1 ∙ ap (st v) e ∙ sym b.1)
      (λ e. absurd (ne (star_meet v b.0 w (good.inside i s v ci iv) one (ap (λ y. has (st v y) w) (sym e) ∙ two))))
      (one_or_other a.0 b.0)

  -- of three with a star in common the last two share
  pub trio_shares : (i j k : ℕ) → C i → star_trio st i j k ≡ true → j ≢ k → t.shares j k ≡ true
  trio_shares i j k c h ne = let x = trio_star st i j k h in star_clique i x.0 j k c x.1 x.2 ne

  -- and the first two
  pub trio_shares_first : (i j k : ℕ) → C i → star_trio st i j k ≡ true → i ≢ j → t.shares i j ≡ true
  trio_shares_first i j k c h ne = let x = trio_star st i j k h in star_shares i x.0 j c x.1 ne

  -- a star in common is one when the first two change places
  trio_turn : (i j k : ℕ) → C i → star_trio st i j k ≡ true → star_trio st j i k ≡ true
  trio_turn i j k c h =
      let x = trio_star st i j k h in
      let a = good.along i x.0 j c x.1 in
      star_has_trio st j i k a.0
      (ap (λ y. has y i) (sym a.1) ∙ star_self i x.0 c) (ap (λ y. has y k) (sym a.1) ∙ x.2)

  -- so the order of the first two does not matter
  pub trio_swaps_first : (i j k : ℕ) → C i → C j → star_trio st i j k ≡ star_trio st j i k
  trio_swaps_first i j k ci cj = same_from_decides _ _ (λ h. h, λ h. h) (trio_turn j i k cj, trio_turn i j k ci)

-- The test that asks each star once passes just where near stars are a system of stars.
use Rattle.std.proofs.Common.{◌≡◌, ℕ, ◌^◌, ◌<◌, Bool, true, false, not, ◌&&◌, ◌||◌, eqb, ◌↔◌, MatchBool, sym, refl, ap, ◌∙◌, ⊎_elim}
use lib.Bits.{bit_or}
use Rattle.std.proofs.lemmas.Bool.{and_parts, and_from, or_cases, or_left, eqb-true, eq-eqb, ne_eqb, cond-true, cond-false, cond_both, cases_eq, both_ways, false≢true, false_from_ne_true}
use Rattle.bitset.specs.Sets.{has, minus, single, lowest, Lowest}
use Rattle.bitset.proofs.Members.{not_empty, has_or, has_minus, has_single, has_none, has_lt, lowest_is}
use Rattle.evidence.specs.Table.{Table, Sound}
use Rattle.theory.specs.Clusters.{Reach}
use Rattle.theory.specs.Stars.{row, far, star, Stars}
use Rattle.theory.specs.Walks.{cluster}
use Rattle.theory.specs.Search.{agreed, fits_at, verified}
use Rattle.theory.proofs.Rows.{row_has}
use Rattle.theory.proofs.Reaches.{reach_lt}
use Rattle.theory.proofs.Walks.{walk_cluster}
use Rattle.theory.proofs.StarFacts.{far_has, far_lt}
use Rattle.theory.proofs.Verify.{all_tells, imp_at, imp_from, no_other, in_far, near_reach, verified_stars, stars_verified}
use Rattle.layout.specs.declared.walk.Walk.{Walk}
use Rattle.layout.specs.Quick.{star_of, quick, near_fits, quick_at}
use Rattle.layout.specs.Told.{told}
use Rattle.layout.proofs.Steps.{walked_reach}

-- a star is agreed on just where each baseline of it has it
pub agreed_tells : (t : Table) (near : ℕ → ℕ) (a : ℕ) → (agreed t near a ≡ true) ↔ ((w : ℕ) → w < 64 → has a w ≡ true → star_of t near a w ≡ true)
unfolding agreed star_of
agreed_tells t near a = (
  λ h w l k. imp_at (has a w) _ ((all_tells _ 64).0 h w l) k,
  λ h. (all_tells _ 64).1 (λ w l. imp_from (has a w) _ (h w l)),
)

-- so whoever asks each baseline of it learns whether it is agreed on
pub agreed_from : (t : Table) (near : ℕ → ℕ) (a : ℕ) (r : Bool) → a < 2 ^ 64
    → MatchBool r ((w : ℕ) → has a w ≡ true → star_of t near a w ≡ true) ((w : ℕ) × (has a w ≡ true) × (star_of t near a w ≡ false))
    → r ≡ agreed t near a
agreed_from t near a true l each = sym ((agreed_tells t near a).1 (λ w _. each w))
agreed_from t near a false l one =
    sym (false_from_ne_true _ (λ h. both_ways _ one.2 ((agreed_tells t near a).0 h one.0 (has_lt 64 a one.0 l one.1) one.1)))

-- then the quick test of it passes too
agreed_quick : (t : Table) (near : ℕ → ℕ) (v a : ℕ) → a < 2 ^ 64 → has a v ≡ true → agreed t near a ≡ true → quick t near v a ≡ true
unfolding quick
agreed_quick t near v a l h k =
    let low = lowest_is a (not_empty a v h) l in
    cond_both (eqb (lowest a) v) (agreed t near a) (star_of t near a (lowest a)) (λ b. b ≡ true)
    (λ _. k)
    (λ _. (agreed_tells t near a).0 k (lowest a) low.below low.member)

module _ (t : Table) (sound : Sound t) (r : ℕ) (below : r < t.count) (near : ℕ → ℕ) (small : (v : ℕ) → Reach t r v → near v < 2 ^ 64) where
  -- their stars are sets of baselines
  star_small : (v : ℕ) (s : Bool) → Reach t r v → star t near v s < 2 ^ 64
  star_small v true c = small v c
  star_small v false c = far_lt t v _ (reach_lt t sound below c)

  -- v is in its stars, and they hold nothing but v and what shares with v
  star_self : (v : ℕ) (s : Bool) → near_fits t near v ≡ true → has (star t near v s) v ≡ true
  unfolding near_fits
  star_self v true h = (and_parts _ _ h).0
  star_self v false h = far_has sound v (near v) v ∙ or_left _ _ (eq-eqb v v refl)

  -- what of the near star of v is neither v nor shares with v
  other_has : (v w : ℕ) → has (minus (near v) (bit_or (single v) (row t v))) w ≡ (has (near v) w && not (eqb v w || t.shares v w))
  other_has v w = simp (has_minus, has_or, has_single, row_has t sound v w)

  -- so what is in a star of v is v or shares with v
  star_inside : (v : ℕ) (s : Bool) (w : ℕ) → near_fits t near v ≡ true → has (star t near v s) w ≡ true → (eqb v w || t.shares v w) ≡ true
  unfolding near_fits
  star_inside v true w h k =
      no_other (eqb v w) (t.shares v w) (has (near v) w)
      (sym (other_has v w) ∙ ap (λ m. has m w) (eqb-true _ _ (and_parts _ _ h).1) ∙ has_none w)
      k
  star_inside v false w h k = in_far (eqb v w) (t.shares v w) (has (near v) w) (sym (far_has sound v (near v) w) ∙ k)

  -- ---- what passes the quick test everywhere passes the test

  module _ (pass : (v : ℕ) → Reach t r v → quick_at t near v ≡ true) where
    passed_fits : (v : ℕ) → Reach t r v → near_fits t near v ≡ true
    unfolding quick_at
    passed_fits v c = (and_parts _ _ (pass v c)).0

    passed_star : (v : ℕ) (s : Bool) → Reach t r v → quick t near v (star t near v s) ≡ true
    unfolding quick_at
    passed_star v true c = (and_parts (quick t near v (near v)) _ (and_parts (near_fits t near v) _ (pass v c)).1).0
    passed_star v false c = (and_parts (quick t near v (near v)) _ (and_parts (near_fits t near v) _ (pass v c)).1).1

    -- a star is agreed on if it is quick at its lowest baseline
    at_lowest : (v a : ℕ) → lowest a ≡ v → quick t near v a ≡ true → agreed t near a ≡ true
    unfolding quick
    at_lowest v a e h = sym (cond-true _ _ _ (eq-eqb _ _ e)) ∙ h

    -- else it is a star of its lowest baseline
    off_lowest : (v a : ℕ) → (lowest a ≡ v → ⊥) → quick t near v a ≡ true → (q : Bool) × (a ≡ star t near (lowest a) q)
    unfolding quick star_of
    off_lowest v a ne h =
        ⊎_elim (λ e. (true, eqb-true _ _ e)) (λ e. (false, eqb-true _ _ e))
        (or_cases _ _ (sym (cond-false _ _ _ (ne_eqb _ _ ne)) ∙ h))

    star_agreed : (v : ℕ) (s : Bool) → Reach t r v → agreed t near (star t near v s) ≡ true
    star_agreed v s c = ⊎_elim (λ e. at_lowest v a e (passed_star v s c)) elsewhere (cases_eq (lowest a) v)
      where
        a : ℕ
        a = star t near v s

        low : Lowest a (lowest a)
        low = lowest_is a (not_empty a v (star_self v s (passed_fits v c))) (star_small v s c)

        u_reach : Reach t r (lowest a)
        u_reach = near_reach t r v (lowest a) c (star_inside v s (lowest a) (passed_fits v c) low.member)

        elsewhere : (lowest a ≡ v → ⊥) → agreed t near a ≡ true
        elsewhere ne =
            let x = off_lowest v a ne (passed_star v s c) in
            ap (agreed t near) x.1
            ∙ at_lowest (lowest a) (star t near (lowest a) x.0) (ap lowest (sym x.1)) (passed_star (lowest a) x.0 u_reach)

    passed_verified : verified t r near ≡ true
    unfolding verified fits_at near_fits
    passed_verified =
        (all_tells _ 64).1 (λ v _. imp_from (has (cluster t r) v) _ (λ h.
        let c = (walk_cluster t sound r below v).0 h in
        and_from _ _ (passed_fits v c) (and_from _ _ (star_agreed v true c) (star_agreed v false c))))

    pub quick_stars : Stars t (Reach t r) (star t near)
    quick_stars = verified_stars t sound r below near small passed_verified

  -- ---- and the other way round

  -- a system of stars passes the quick test everywhere
  pub stars_quick : Stars t (Reach t r) (star t near) → (v : ℕ) → Reach t r v → quick_at t near v ≡ true
  unfolding verified fits_at near_fits quick_at
  stars_quick good v c =
      let fits = imp_at _ _ ((all_tells _ 64).0 (stars_verified t sound r below near good (λ v _. (true, refl))) v (reach_lt t sound below c)) ((walk_cluster t sound r below v).1 c) in
      let x = and_parts _ _ fits in
      let y = and_parts _ _ x.1 in
      and_from _ _ x.0
      (and_from _ _
      (agreed_quick t near v (near v) (small v c) (star_self v true x.0) y.0)
      (agreed_quick t near v (far t v (near v)) (star_small v false c) (star_self v false x.0) y.1))

-- whoever asks each baseline of a walk learns whether they are a system of stars
pub verified_by : (w : Walk) (near : ℕ → ℕ) (r : Bool) → ((v : ℕ) → Reach (told w.rows.now) w.root v → near v < 2 ^ 64)
    → MatchBool r ((v : ℕ) → has w.met.bits v ≡ true → quick_at (told w.rows.now) near v ≡ true)
    ((v : ℕ) × (has w.met.bits v ≡ true) × (quick_at (told w.rows.now) near v ≡ false))
    → (r ≡ true) ↔ Stars (told w.rows.now) (Reach (told w.rows.now) w.root) (star (told w.rows.now) near)
verified_by w near true small each = (
  λ _. quick_stars (told w.rows.now) w.rows.now.sound w.root w.walked.below near small (λ v reach. each v (w.walked.whole v reach)),
  λ _. refl,
)
verified_by w near false small one = (
  λ h. absurd (false≢true h),
  λ good. absurd (both_ways _ one.2
      (stars_quick (told w.rows.now) w.rows.now.sound w.root w.walked.below near small good one.0
      ((walked_reach (told w.rows.now) w.rows.now.sound w.root w.met.bits w.steps.items w.walked one.0).0 one.1))),
)

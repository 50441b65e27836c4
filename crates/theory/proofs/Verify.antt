-- The test of near stars is right: what passes is a system of stars, and stars of such a system pass.
use Rattle.std.proofs.Common.{◌≡◌, ℕ, ◌^◌, ◌<◌, Bool, true, false, not, ◌&&◌, ◌||◌, eqb, Decides, sym, refl, ap, ◌∙◌, subst, ⊎_elim, arith}
use lib.Bits.{bit_or}
use Rattle.std.proofs.lemmas.Bool.{and_parts, and_from, or_cases, or_left, or_right, eqb-true, eq-eqb}
use Rattle.std.proofs.lemmas.Bool.Decides.{nat_tests, Decides-below_and}
use Rattle.bitset.specs.Sets.{has, minus, single}
use Rattle.bitset.proofs.Members.{has_or, has_minus, has_single, has_none, has_lt, same_set, empty_set, minus_lt}
use Rattle.evidence.specs.Table.{Table, Sound}
use Rattle.theory.specs.Clusters.{Reach, step}
use Rattle.theory.specs.Stars.{row, far, star, Stars}
use Rattle.theory.specs.Walks.{cluster}
use Rattle.theory.specs.Search.{all, agreed, fits_at, verified}
use Rattle.theory.proofs.Rows.{row_has}
use Rattle.theory.proofs.Ends.{one_or_other}
use Rattle.theory.proofs.Reaches.{reach_lt}
use Rattle.theory.proofs.Walks.{walk_cluster}
use Rattle.theory.proofs.StarFacts.{far_has, far_lt, star_has, star_self}

-- the test of all numbers below n passes just where it passes at each
pub all_tells : (p : ℕ → Bool) (n : ℕ) → Decides (all p n) ((k : ℕ) → k < n → p k ≡ true)
unfolding all
all_tells p n = Decides-below_and p (λ k. p k ≡ true) (all p) (λ k. (λ h. h, λ h. h)) refl (λ _. refl) n

-- a test that is asked for only where another passes
pub imp_at : (a b : Bool) → (not a || b) ≡ true → a ≡ true → b ≡ true
imp_at a b h k = grind (arith, nat_tests)

pub imp_from : (a b : Bool) → (a ≡ true → b ≡ true) → (not a || b) ≡ true
imp_from true b h = h refl
imp_from false b h = refl

-- a is a set, x the baseline v, r what shares with v: where a holds nothing else, what is in a is v or shares with v
pub no_other : (x r a : Bool) → (a && not (x || r)) ≡ false → a ≡ true → (x || r) ≡ true
no_other x r a h k = grind (arith, nat_tests)

-- and the other of the other of a is a, if v is in it
other_other : (x r a : Bool) → (x ≡ true → a ≡ true) → (a && not (x || r)) ≡ false → (x || (r && not (x || (r && not a)))) ≡ a
other_other x r a h k = grind (arith, nat_tests)

-- what is in the other of a is v or shares with v
pub in_far : (x r a : Bool) → (x || (r && not a)) ≡ true → (x || r) ≡ true
in_far x r a h = grind (arith, nat_tests)

none_else : (x r b : Bool) → ((x || (r && b)) && not (x || r)) ≡ false
none_else x r b = grind (arith, nat_tests)

-- v or what shares with v is in the cluster, if v is
pub near_reach : (t : Table) (r v w : ℕ) → Reach t r v → (eqb v w || t.shares v w) ≡ true → Reach t r w
near_reach t r v w c h = ⊎_elim (λ e. subst (Reach t r) (eqb-true v w e) c) (λ e. step c e) (or_cases _ _ h)

module _ (t : Table) (sound : Sound t) (r : ℕ) (below : r < t.count) (near : ℕ → ℕ) where
  -- ---- What passes is a system of stars

  module _ (low : (v : ℕ) → Reach t r v → near v < 2 ^ 64) (pass : verified t r near ≡ true) where
    -- the four parts of the test at a baseline of the cluster
    passed : (v : ℕ) → Reach t r v
        → (has (near v) v ≡ true) × (eqb (minus (near v) (bit_or (single v) (row t v))) 0 ≡ true)
        × (agreed t near (near v) ≡ true) × (agreed t near (far t v (near v)) ≡ true)
    unfolding verified fits_at
    passed v c =
        let x = imp_at _ _ ((all_tells _ 64).0 pass v (reach_lt t sound below c)) ((walk_cluster t sound r below v).1 c) in
        let y = and_parts _ _ x in
        let y0 = and_parts _ _ y.0 in
        let y1 = and_parts _ _ y.1 in
        (y0.0, y0.1, y1.0, y1.1)

    -- the near star of v holds nothing but v and what shares with v
    near_within : (v i : ℕ) → Reach t r v → (has (near v) i && not (eqb v i || t.shares v i)) ≡ false
    near_within v i c =
        sym (simp (has_minus, has_or, has_single, row_has t sound v i))
        ∙ ap (λ x. has x i) (eqb-true _ _ (passed v c).1) ∙ has_none i

    -- so it is the other star of its other star
    far_far : (v : ℕ) → Reach t r v → far t v (far t v (near v)) ≡ near v
    far_far v c =
        same_set 64 _ _ (far_lt t v _ (reach_lt t sound below c)) (low v c)
        (λ i l. simp (far_has sound)
        (other_other (eqb v i) (t.shares v i) (has (near v) i)
        (λ e. ap (has (near v)) (sym (eqb-true v i e)) ∙ (passed v c).0) (near_within v i c)))

    -- the parts of a system of stars
    star_lt : (v : ℕ) (s : Bool) → Reach t r v → star t near v s < 2 ^ 64
    star_lt v true c = low v c
    star_lt v false c = far_lt t v _ (reach_lt t sound below c)

    star_other : (v : ℕ) (s : Bool) → Reach t r v → far t v (star t near v s) ≡ star t near v (not s)
    star_other v true c = refl
    star_other v false c = far_far v c

    star_agreed : (v : ℕ) (s : Bool) → Reach t r v → agreed t near (star t near v s) ≡ true
    star_agreed v true c = (passed v c).2
    star_agreed v false c = (passed v c).3

    star_inside : (v : ℕ) (s : Bool) (w : ℕ) → Reach t r v → has (star t near v s) w ≡ true → Reach t r w
    star_inside v true w c h = near_reach t r v w c (no_other (eqb v w) (t.shares v w) _ (near_within v w c) h)
    star_inside v false w c h = near_reach t r v w c (in_far (eqb v w) (t.shares v w) (has (near v) w) (sym (far_has sound v _ w) ∙ h))

    star_along : (v : ℕ) (s : Bool) (w : ℕ) → Reach t r v → has (star t near v s) w ≡ true → (q : Bool) × (star t near v s ≡ star t near w q)
    unfolding agreed
    star_along v s w c h =
        ⊎_elim (λ e. (true, eqb-true _ _ e)) (λ e. (false, eqb-true _ _ e))
        (or_cases _ _ (imp_at _ _ ((all_tells _ 64).0 (star_agreed v s c) w (has_lt 64 _ w (star_lt v s c) h)) h))

    -- near stars that pass are a system of stars
    pub verified_stars : Stars t (Reach t r) (star t near)
    verified_stars = record { other = star_other; along = star_along; inside = star_inside; small = star_lt }

  -- ---- Stars of a system pass

  module _ {st : ℕ → Bool → ℕ} (good : Stars t (Reach t r) st) (is : (v : ℕ) → Reach t r v → (q : Bool) × (near v ≡ st v q)) where
    -- a star of the system is a star of each baseline in it by the near stars too
    agrees : (v : ℕ) (s : Bool) (a : ℕ) → Reach t r v → a ≡ st v s → agreed t near a ≡ true
    unfolding agreed
    agrees v s a c e =
        (all_tells _ 64).1 (λ w l. imp_from (has a w) _ (λ h.
        let k : has (st v s) w ≡ true = ap (λ x. has x w) (sym e) ∙ h in
        let d = good.inside v s w c k in
        let x = good.along v s w c k in
        let y = is w d in
        ⊎_elim
        (λ q. or_left _ _ (eq-eqb _ _ (e ∙ x.1 ∙ ap (st w) q ∙ sym y.1)))
        (λ q. or_right _ _ (eq-eqb _ _ (e ∙ x.1 ∙ ap (st w) q ∙ sym (good.other w y.0 d) ∙ ap (far t w) (sym y.1))))
        (one_or_other x.0 y.0)))

    -- a star of v holds nothing but v and what shares with v
    star_within : (v : ℕ) (s : Bool) → Reach t r v → minus (st v s) (bit_or (single v) (row t v)) ≡ 0
    star_within v s c =
        empty_set 64 _ (minus_lt 64 _ _ (good.small v s c))
        (λ i l. simp (has_minus, has_or, has_single, row_has t sound v i)
        (ap (λ x. x && not (eqb v i || t.shares v i)) (star_has sound good v s i c) ∙ none_else (eqb v i) (t.shares v i) _))

    -- near stars out of a system of stars pass
    pub stars_verified : verified t r near ≡ true
    unfolding verified fits_at
    stars_verified =
        (all_tells _ 64).1 (λ v l. imp_from (has (cluster t r) v) _ (λ h.
        let c = (walk_cluster t sound r below v).0 h in
        let y = is v c in
        and_from _ _
        (and_from _ _ (ap (λ x. has x v) y.1 ∙ star_self sound good v _ c)
        (eq-eqb _ _ (ap (λ x. minus x (bit_or (single v) (row t v))) y.1 ∙ star_within v _ c)))
        (and_from _ _ (agrees v _ _ c y.1) (agrees v _ _ c (ap (far t v) y.1 ∙ good.other v _ c)))))

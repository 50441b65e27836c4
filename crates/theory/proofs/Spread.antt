-- The spread is complete: from a star of r it hands each baseline that is met one of its two stars.
use Rattle.std.proofs.Common.{◌≡◌, ℕ, ◌^◌, ◌<◌, Bool, true, false, not, List, ◌∷◌, sym, refl, ap, ◌∙◌, subst, ⊎_elim, arith}
use lib.Bits.{bit_or}
use Rattle.std.proofs.lemmas.Bool.{or_cases, or_left, or_right, eqb-true, eq-eqb, ne_eqb, cond-true, cond-false, cond_both, cases_Bool, both_ways}
use Rattle.bitset.specs.Sets.{has, single}
use Rattle.bitset.proofs.Members.{has_or, has_single, single_has}
use Rattle.evidence.specs.Table.{Table, Sound}
use Rattle.theory.specs.Stars.{far, Stars}
use Rattle.theory.specs.Walks.{Steps, none, more}
use Rattle.theory.specs.Search.{handed, Handed, start, hand, spread}
use Rattle.theory.proofs.Reaches.{shares_lt}
use Rattle.theory.proofs.StarFacts.{far_lt, star_rest}

-- ---- What is handed down

module _ {t : Table} (sound : Sound t) {C : ℕ → Type 0} {st : ℕ → Bool → ℕ} (good : Stars t C st) where
  -- a star of p is a star of each baseline in it
  star_on : (p : ℕ) (q : Bool) (v : ℕ) → C p → has (st p q) v ≡ true → C v × ((s : Bool) × (st p q ≡ st v s))
  star_on p q v c h = (good.inside p q v c h, good.along p q v c h)

  -- the star that p hands to v is a star of v
  pub hand_star : (p v : ℕ) (q : Bool) → C p → t.shares p v ≡ true → C v × ((s : Bool) × (handed t p (st p q) v ≡ st v s))
  unfolding handed
  hand_star p v q c share =
      ⊎_elim
      (λ h. let x = star_on p q v c h in (x.0, (x.1.0, cond-true _ _ _ h ∙ x.1.1)))
      (λ h. let x = star_on p (not q) v c (star_rest sound good p q v c share h) in
      (x.0, (x.1.0, cond-false _ _ _ h ∙ good.other p q c ∙ x.1.1)))
      (cases_Bool (has (st p q) v))

  -- a near star that comes from a star of r is a star of the baseline that has it
  pub handed_star : {r a : ℕ} {near : ℕ → ℕ} (q : Bool) → C r → a ≡ st r q → (v : ℕ) → Handed t r a near v
      → C v × ((s : Bool) × (near v ≡ st v s))
  handed_star q c e v (start k) = (c, (q, k ∙ e))
  handed_star q c e v (hand {p} h share k) =
      let x = handed_star q c e p h in
      let y = hand_star p v x.1.0 x.0 share in
      (y.0, (y.1.0, k ∙ ap (λ a. handed t p a v) x.1.1 ∙ y.1.1))

-- what is handed on is a set of baselines, if the near star is
hand_lt : {t : Table} → Sound t → (p near v : ℕ) → near < 2 ^ 64 → t.shares p v ≡ true → handed t p near v < 2 ^ 64
unfolding handed
hand_lt {t} sound p near v l share =
    cond_both (has near v) near (far t p near) (λ a. a < 2 ^ 64)
    (λ _. l)
    (λ _. far_lt t p near (shares_lt t sound v p (sound.alike v p ∙ share)))

-- so every near star that comes from a set of baselines is one
pub handed_lt : {t : Table} → Sound t → {r a : ℕ} {near : ℕ → ℕ} → a < 2 ^ 64 → (v : ℕ) → Handed t r a near v → near v < 2 ^ 64
handed_lt sound l v (start k) = omega arith
handed_lt sound {near} l v (hand {p} h share k) = omega (arith, hand_lt sound p (near p) v (handed_lt sound l p h) share)

-- ---- What the spread hands down along a walk

-- the near stars are as the spread says wherever the walk came
abbrev Follows : Table → ℕ → ℕ → (ℕ → ℕ) → List (ℕ × ℕ) → ℕ → Type 0
Follows t r a near steps met = (w : ℕ) → has met w ≡ true → near w ≡ spread t r a steps w

module _ (t : Table) (r a : ℕ) where
  -- then they were so before the last step
  follows_before : (steps : List (ℕ × ℕ)) (met p v : ℕ) (near : ℕ → ℕ) → has met v ≡ false
      → Follows t r a near ((p, v) ∷ steps) (bit_or met (single v)) → Follows t r a near steps met
  unfolding spread
  follows_before steps met p v near nv is w k =
      is w (has_or _ _ w ∙ or_left _ _ k) ∙ cond-false _ _ _ (ne_eqb w v (λ e. both_ways _ nv (ap (has met) (sym e) ∙ k)))

  -- r keeps the first star
  follows_start : {steps : List (ℕ × ℕ)} {met : ℕ} (near : ℕ → ℕ) → Steps t r steps met → Follows t r a near steps met → near r ≡ a
  unfolding spread
  follows_start near none is = is r (single_has r) ∙ cond-true _ _ _ (eq-eqb r r refl)
  follows_start near (more {steps} {met} {p} {v} s mp nv share) is = follows_start near s (follows_before steps met p v near nv is)

  -- each baseline met has a near star that was handed down to it
  follows_handed : {steps : List (ℕ × ℕ)} {met : ℕ} (near : ℕ → ℕ) → Steps t r steps met → Follows t r a near steps met
      → (w : ℕ) → has met w ≡ true → Handed t r a near w
  unfolding spread
  follows_handed near none is w h =
      subst (Handed t r a near) (eqb-true r w (sym (has_single r w) ∙ h)) (start (follows_start near none is))
  follows_handed near (more {steps} {met} {p} {v} s mp nv share) is w h =
      let was = follows_before steps met p v near nv is in
      let now : near v ≡ handed t p (near p) v =
      is v (has_or _ _ v ∙ or_right _ _ (single_has v)) ∙ cond-true _ _ _ (eq-eqb v v refl) ∙ ap (λ x. handed t p x v) (sym (was p mp)) in
      ⊎_elim
      (follows_handed near s was w)
      (λ k. subst (Handed t r a near) (eqb-true v w (sym (has_single v w) ∙ k)) (hand (follows_handed near s was p mp) share now))
      (or_cases _ _ (sym (has_or _ _ w) ∙ h))

  -- so the spread leaves r the first star
  pub spread_start : {steps : List (ℕ × ℕ)} {met : ℕ} → Steps t r steps met → spread t r a steps r ≡ a
  spread_start s = follows_start _ s (λ w h. refl)

  -- and hands each baseline met its near star
  pub spread_handed : {steps : List (ℕ × ℕ)} {met : ℕ} → Steps t r steps met
      → (v : ℕ) → has met v ≡ true → Handed t r a (spread t r a steps) v
  spread_handed s = follows_handed _ s (λ w h. refl)

-- along a walk from r the spread of a star of r gives each baseline met one of its stars
pub spread_star : {t : Table} → Sound t → {C : ℕ → Type 0} {st : ℕ → Bool → ℕ} → Stars t C st → {r a : ℕ} (q : Bool) → C r → a ≡ st r q
    → {steps : List (ℕ × ℕ)} {met : ℕ} → Steps t r steps met → (v : ℕ) → has met v ≡ true → (s : Bool) × (spread t r a steps v ≡ st v s)
spread_star sound good q c e s v h = (handed_star sound good q c e v (spread_handed _ _ _ s v h)).1

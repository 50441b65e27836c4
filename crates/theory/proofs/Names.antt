-- The stars of a cluster make a layout of it: an imager goes by its star.
use Rattle.std.proofs.Common.{◌≡◌, ℕ, ◌+◌, Bool, true, false, cond, not, ◌&&◌, ◌||◌, eqb, ◌≢◌, ◌↔◌, sym, ap, ◌∙◌, ⊎_elim, arith}
use Rattle.std.proofs.lemmas.Bool.{cond-true, cond-false, eq-eqb, ne_eqb, or_left, or_right, or_from, cases_Bool, cases_eq, both_ways}
use Rattle.std.proofs.lemmas.Bool.Decides.{nat_tests}
use Rattle.bitset.specs.Sets.{has, lowest}
use Rattle.bitset.proofs.Members.{has_none}
use Rattle.evidence.specs.Table.{Table, Sound}
use Rattle.theory.specs.Layout.{Ends, stands, LayoutOn}
use Rattle.theory.specs.Groups.{Trio, has_trio}
use Rattle.theory.specs.Clusters.{Reach}
use Rattle.theory.specs.Stars.{row, Stars, star_trio}
use Rattle.theory.proofs.Rows.{row_has}
use Rattle.theory.proofs.Trios.{trio_tested, tested_trio}
use Rattle.theory.proofs.Reaches.{reach_join, reach_back, reach_alone}
use Rattle.theory.proofs.StarFacts.{shares_apart, star_has, star_self, star_meet, shares_star}
use Rattle.theory.proofs.Firsts.{lowest_shares}

-- the ends of v go by its two stars; a lone baseline, whose stars are equal, has 0 and 1
abbrev pub named : Table → (ℕ → Bool → ℕ) → ℕ → Ends
named t st v = cond (eqb (row t v) 0) (0, 1) (st v true, st v false)

-- what shares is in one of two parts, and what does not is in none
in_parts : (x y r d : Bool) → d ≡ false → x ≡ (d || (r && not y)) → y ≡ (d || (r && not x)) → cond x 1 0 + cond y 1 0 ≡ cond r 1 0
in_parts x y r d h k l = grind (arith, nat_tests)

module _ {t : Table} (sound : Sound t) {r : ℕ} {st : ℕ → Bool → ℕ} (good : Stars t (Reach t r) st) where
  -- in a cluster of two or more none is lone
  crowd : (v w : ℕ) → Reach t r v → Reach t r w → v ≢ w → row t v ≢ 0
  crowd v w c d ne z =
      let lone : (k : ℕ) → t.shares v k ≡ false = λ k. sym (row_has t sound v k) ∙ ap (λ m. has m k) z ∙ has_none k in
      ne (sym (reach_alone t sound lone (reach_join t sound (reach_back t sound c) d)))

  named_stars : (v w : ℕ) → Reach t r v → Reach t r w → v ≢ w → named t st v ≡ (st v true, st v false)
  named_stars v w c d ne = cond-false _ _ _ (ne_eqb _ _ (crowd v w c d ne))

  -- a star of v is one of the two stars of w exactly when w is in it
  star_stands : (v w : ℕ) (s : Bool) → Reach t r v → Reach t r w → stands (st v s) (st w true, st w false) ≡ has (st v s) w
  star_stands v w s c d = ⊎_elim (λ h. within h ∙ sym h) (λ h. or_from _ _ (outside h true) (outside h false) ∙ sym h) (cases_Bool (has (st v s) w))
    where
      pick : (q : Bool) → st v s ≡ st w q → stands (st v s) (st w true, st w false) ≡ true
      pick true e = or_left _ _ (eq-eqb _ _ e)
      pick false e = or_right (eqb (st v s) (st w true)) _ (eq-eqb _ _ e)

      within : has (st v s) w ≡ true → stands (st v s) (st w true, st w false) ≡ true
      within h = let a = good.along v s w c h in pick a.0 a.1

      outside : has (st v s) w ≡ false → (q : Bool) → eqb (st v s) (st w q) ≡ false
      outside h q = ne_eqb _ _ (λ e. both_ways _ h (ap (λ a. has a w) e ∙ star_self sound good w q d))

  named_stands : (v w : ℕ) (s : Bool) → Reach t r v → Reach t r w → v ≢ w → stands (st v s) (named t st w) ≡ has (st v s) w
  named_stands v w s c d ne =
      ap (stands (st v s)) (named_stars w v d c (λ e. ne (sym e))) ∙ star_stands v w s c d

  -- the two stars of a baseline that is not lone differ
  sides_differ : (v : ℕ) → Reach t r v → row t v ≢ 0 → st v true ≢ st v false
  sides_differ v c some e =
      let w = lowest (row t v) in
      let shared = lowest_shares t sound v some in
      let s = shares_star sound good v w c shared in
      shares_apart sound v w shared (both s.0 s.1)
    where
      both : (s : Bool) → has (st v s) (lowest (row t v)) ≡ true → v ≡ lowest (row t v)
      both true h = star_meet sound good v true _ c h (ap (λ a. has a (lowest (row t v))) (sym e) ∙ h)
      both false h = star_meet sound good v false _ c h (ap (λ a. has a (lowest (row t v))) e ∙ h)

  -- the stars are a layout
  pub named_fits : LayoutOn t (Reach t r) (named t st)
  named_fits = record { different = apart; meets = meet }
    where
      apart : (v : ℕ) → Reach t r v → (named t st v).0 ≢ (named t st v).1
      apart v c =
          ⊎_elim
          (λ z. let e = cond-true {A = Ends} (eqb (row t v) 0) (0, 1) (st v true, st v false) (eq-eqb _ _ z) in rw e (λ h. omega arith))
          (λ ne. let e = cond-false {A = Ends} (eqb (row t v) 0) (0, 1) (st v true, st v false) (ne_eqb _ _ ne) in rw e (sides_differ v c ne))
          (cases_eq (row t v) 0)

      meet : (v w : ℕ) → Reach t r v → Reach t r w → v ≢ w
          → cond (stands (named t st v).0 (named t st w)) 1 0 + cond (stands (named t st v).1 (named t st w)) 1 0 ≡ cond (t.shares v w) 1 0
      meet v w c d ne =
          let e = named_stars v w c d ne in
          let p = named_stands v w true c d ne in
          let q = named_stands v w false c d ne in
          rw (e, p, q) (in_parts _ _ _ _ (ne_eqb v w ne) (star_has sound good v true w c) (star_has sound good v false w c))

  -- and have its threes
  pub named_trio : (i j k : ℕ) → Reach t r i → Reach t r j → Reach t r k → i ≢ j → i ≢ k
      → Trio (named t st) i j k ↔ (star_trio st i j k ≡ true)
  named_trio i j k ci cj ck ij ik =
      ((λ h. sym same ∙ trio_tested (named t st) i j k h), (λ h. tested_trio (named t st) i j k (same ∙ h)))
    where
      same : has_trio (named t st) i j k ≡ star_trio st i j k
      same =
          let e = named_stars i j ci cj ij in
          let p = named_stands i j true ci cj ij in
          let q = named_stands i j false ci cj ij in
          let u = named_stands i k true ci ck ik in
          let v = named_stands i k false ci ck ik in
          rw (e, p, q, u, v)

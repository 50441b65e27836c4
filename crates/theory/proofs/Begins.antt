-- Which of the stars that begin at a baseline hold another: as many as its own stars that begin there.
use Rattle.std.proofs.Common.{◌≡◌, ℕ, ◌+◌, ◌<◌, ◌≤◌, Bool, true, false, cond, not, ◌&&◌, eqb, ◌≢◌, List, [], ◌∷◌, ◌++◌, sym, refl, ap, ◌∙◌, ap₂, ⊎_elim, add-zero, add_comm, zero-add, arith}
use mathlib.Core.Bool.{and_comm}
use Rattle.std.proofs.lemmas.List.Sums.{sum_by-append}
use Rattle.std.proofs.lemmas.Bool.{and_parts, and_from, both_ways, cases_Bool, cases_eq, cond_both, eqb-true, leb-true, leb-false, false_from_ne_true}
use Rattle.std.proofs.lemmas.Bool.Decides.{nat_tests}
use Rattle.bitset.specs.Sets.{has, lowest}
use Rattle.evidence.specs.Table.{Table, Sound}
use Rattle.theory.specs.Stars.{Stars, star, far}
use Rattle.theory.specs.Imagers.{second, begun_by, begins}
use Rattle.theory.proofs.Lowest.{LowestTwo, lowest_two}
use Rattle.theory.proofs.Places.{holding, one}
use Rattle.theory.proofs.StarFacts.{star_self, star_meet}

-- the stars that begin at v stand in the one order or in the other
pub begins_ways : (P : List ℕ → Type 0) (t : Table) (near : ℕ → ℕ) (v : ℕ)
    → (second (near v) ≤ second (far t v (near v)) → P (begun_by v (near v) ++ begun_by v (far t v (near v))))
    → (second (far t v (near v)) ≤ second (near v) → P (begun_by v (far t v (near v)) ++ begun_by v (near v)))
    → P (begins t near v)
unfolding begins
begins_ways P t near v f g =
    cond_both _ _ _ P (λ e. f (leb-true _ _ e)) (λ e. g (omega (arith, leb-false (second (near v)) (second (far t v (near v))) e)))

-- How many of two stars are picked and pass the test.
abbrev pub picked : (ℕ → Bool) → (Bool → Bool) → (Bool → ℕ) → ℕ
picked test pick star = one (pick true && test (star true)) + one (pick false && test (star false))

-- where one star is picked, it is tested alone
picked_one : (test : ℕ → Bool) (pick : Bool → Bool) (star : Bool → ℕ) (q : Bool) → pick q ≡ true → pick (not q) ≡ false
    → picked test pick star ≡ one (test (star q))
picked_one test pick star true h k = simp (h, k) (add-zero _)
picked_one test pick star false h k = simp (h, k) (zero-add _)

-- where none is picked, none passes
pub picked_none : (test : ℕ → Bool) (pick : Bool → Bool) (star : Bool → ℕ) → ((q : Bool) → pick q ≡ false) → picked test pick star ≡ 0
picked_none test pick star h = ap₂ (λ x y. one (x && test (star true)) + one (y && test (star false))) (h true) (h false)

-- where each star picked of the one pair is one picked of the other, and no pair is picked whole, as many are picked
same_picked : (test : ℕ → Bool) (pick pick' : Bool → Bool) (star star' : Bool → ℕ)
    → ((q : Bool) → pick q ≡ true → (s : Bool) × (pick' s ≡ true) × (star q ≡ star' s))
    → ((s : Bool) → pick' s ≡ true → (q : Bool) × (pick q ≡ true))
    → ((q : Bool) → pick q ≡ true → pick (not q) ≡ false)
    → ((s : Bool) → pick' s ≡ true → pick' (not s) ≡ false)
    → picked test pick star ≡ picked test pick' star'
same_picked test pick pick' star star' to back lone lone' =
    ⊎_elim (found true) (λ h. ⊎_elim (found false) (λ k. none (either h k)) (cases_Bool (pick false))) (cases_Bool (pick true))
  where
    found : (q : Bool) → pick q ≡ true → picked test pick star ≡ picked test pick' star'
    found q h =
        let x = to q h in
        picked_one test pick star q h (lone q h) ∙ ap (λ a. one (test a)) x.2
        ∙ sym (picked_one test pick' star' x.0 x.1 (lone' x.0 x.1))

    either : pick true ≡ false → pick false ≡ false → (q : Bool) → pick q ≡ false
    either h k true = h
    either h k false = k

    none : ((q : Bool) → pick q ≡ false) → picked test pick star ≡ picked test pick' star'
    none h =
        picked_none test pick star h
        ∙ sym (picked_none test pick' star' (λ s. false_from_ne_true _ (λ p. let x = back s p in both_ways _ (h x.0) x.1)))

-- how many stars hold i of a, if it begins at w
holding_begun : (test : ℕ → Bool) (i w a : ℕ) → holding test i (begun_by w a) ≡ one ((eqb (lowest a) w && has a i) && test a)
unfolding begun_by
holding_begun test i w a = if_so (eqb (lowest a) w)
  where
    if_so : (b : Bool) → holding test i (cond b (a ∷ []) []) ≡ one ((b && has a i) && test a)
    if_so true = zero-add _ ∙ ap one (and_comm (test a) (has a i))
    if_so false = refl

-- how many of the stars that begin at w hold i: their order does not matter
holding_begins : (t : Table) (near : ℕ → ℕ) (test : ℕ → Bool) (i w : ℕ)
    → holding test i (begins t near w)
    ≡ picked test (λ q. eqb (lowest (star t near w q)) w && has (star t near w q) i) (star t near w)
holding_begins t near test i w =
    begins_ways (λ stars. holding test i stars ≡ one (hold (near w)) + one (hold (far t w (near w)))) t near w
    (λ h. both (near w) (far t w (near w))) (λ h. both (far t w (near w)) (near w) ∙ add_comm _ _)
  where
    hold : ℕ → Bool
    hold a = (eqb (lowest a) w && has a i) && test a

    both : (a b : ℕ) → holding test i (begun_by w a ++ begun_by w b) ≡ one (hold a) + one (hold b)
    both a b =
        sum_by-append (λ c. one (test c && has c i)) (begun_by w a) (begun_by w b)
        ∙ ap₂ ◌+◌ (holding_begun test i w a) (holding_begun test i w b)

module _ {t : Table} (sound : Sound t) {near : ℕ → ℕ} (good : Stars t (λ v. v < t.count) (star t near)) where
  -- the two lowest baselines of a star of v
  pub star_two : (v : ℕ) (s : Bool) → v < t.count → LowestTwo (star t near v s)
  star_two v s l = lowest_two (star t near v s) v (good.small v s l) (star_self sound good v s l)

  -- of the stars that begin at w, those that hold i are the stars of i that begin at w
  pub begins_holding : (test : ℕ → Bool) (i w : ℕ) → i < t.count → w < t.count
      → holding test i (begins t near w) ≡ picked test (λ s. eqb (lowest (star t near i s)) w) (star t near i)
  begins_holding test i w li lw = holding_begins t near test i w ∙ ⊎_elim equal apart (cases_eq i w)
    where
      st : ℕ → Bool → ℕ
      st = star t near

      -- a star of w is picked where it begins at w and holds i, and a star of i where it begins at w
      theirs : Bool → Bool
      theirs q = eqb (lowest (st w q)) w && has (st w q) i

      mine : Bool → Bool
      mine s = eqb (lowest (st i s)) w

      equal : i ≡ w → picked test theirs (st w) ≡ picked test mine (st i)
      equal p = ap₂ ◌+◌ (side true) (side false)
        where
          beside : (x y : Bool) → y ≡ true → (x && y) ≡ x
          beside x y h = grind (arith, nat_tests)

          side : (q : Bool) → one (theirs q && test (st w q)) ≡ one (mine q && test (st i q))
          side q =
              ap (λ x. one (x && test (st w q))) (beside _ _ (ap (λ k. has (st k q) i) (sym p) ∙ star_self sound good i q li))
              ∙ ap (λ k. one (eqb (lowest (st k q)) w && test (st k q))) (sym p)

      apart : i ≢ w → picked test theirs (st w) ≡ picked test mine (st i)
      apart d = same_picked test theirs mine (st w) (st i) to back lone lone'
        where
          held : (q : Bool) → theirs q ≡ true → has (st w q) i ≡ true
          held q h = (and_parts (eqb (lowest (st w q)) w) (has (st w q) i) h).1

          to : (q : Bool) → theirs q ≡ true → (s : Bool) × (mine s ≡ true) × (st w q ≡ st i s)
          to q h =
              let x = and_parts _ _ h in
              let y = good.along w q i lw x.1 in
              (y.0, ap (λ a. eqb (lowest a) w) (sym y.1) ∙ x.0, y.1)

          at_w : (s : Bool) → mine s ≡ true → has (st i s) w ≡ true
          at_w s h = ap (has (st i s)) (sym (eqb-true _ w h)) ∙ (star_two i s li).low.member

          back : (s : Bool) → mine s ≡ true → (q : Bool) × (theirs q ≡ true)
          back s h =
              let y = good.along i s w li (at_w s h) in
              (y.0, and_from _ _ (ap (λ a. eqb (lowest a) w) (sym y.1) ∙ h) (ap (λ a. has a i) (sym y.1) ∙ star_self sound good i s li))

          lone : (q : Bool) → theirs q ≡ true → theirs (not q) ≡ false
          lone q h = false_from_ne_true _ (λ k. d (sym (star_meet sound good w q i lw (held q h) (held (not q) k))))

          lone' : (s : Bool) → mine s ≡ true → mine (not s) ≡ false
          lone' s h = false_from_ne_true _ (λ k. d (star_meet sound good i s w li (at_w s h) (at_w (not s) k)))

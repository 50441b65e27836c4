-- Places in a list of stars: a baseline that two stars of the list hold has their places for its ends.
use Rattle.std.proofs.Common.{◌≡◌, ℕ, zero, suc, ◌+◌, ◌<◌, Bool, true, false, cond, ◌&&◌, ◌||◌, eqb, List, [], ◌∷◌, length, get_or, count_by, sym, refl, ap, ◌∙◌, subst, ap₂, subst₂, ⊎_elim, zero-add, arith}
use Rattle.std.proofs.lemmas.List.Sums.{sum_by-cons}
use Rattle.std.proofs.lemmas.Bool.{cases_Bool, cond-true, cond-false}
use Rattle.std.proofs.lemmas.Bool.Decides.{nat_tests}
use Rattle.bitset.specs.Sets.{has}
use Rattle.theory.specs.Layout.{Ends, stands}
use Rattle.theory.specs.Imagers.{place, second_place, places_of}

-- How many stars of the list pass a test and hold v.
abbrev pub holding : (ℕ → Bool) → ℕ → List ℕ → ℕ
holding test v stars = count_by (λ a. test a && has a v) stars

-- The test that any star passes.
abbrev pub any : ℕ → Bool
any a = true

-- The star at a place.
abbrev pub nth_star : List ℕ → ℕ → ℕ
nth_star stars p = get_or stars p 0

-- 1 for a test passed, else 0.
abbrev pub one : Bool → ℕ
one b = cond b 1 0

-- No star holds v.
record None (v : ℕ) (stars : List ℕ) : Type 0 where
  at : (k : ℕ) → k < length stars → has (nth_star stars k) v ≡ false
  tests : (test : ℕ → Bool) → holding test v stars ≡ 0

-- Only the star at p holds v.
record Once (v : ℕ) (stars : List ℕ) (p : ℕ) : Type 0 where
  below : p < length stars
  at : (k : ℕ) → k < length stars → has (nth_star stars k) v ≡ eqb k p
  tests : (test : ℕ → Bool) → holding test v stars ≡ one (test (nth_star stars p))

-- Only the stars at the two places e hold v.
pub record Twice (v : ℕ) (stars : List ℕ) (e : Ends) : Type 0 where
  pub rises : e.0 < e.1
  pub below : e.1 < length stars
  pub at : (k : ℕ) → k < length stars → has (nth_star stars k) v ≡ stands k e
  pub tests : (test : ℕ → Bool) → holding test v stars ≡ one (test (nth_star stars e.0)) + one (test (nth_star stars e.1))

eqb_suc : (k p : ℕ) → eqb (suc k) (suc p) ≡ eqb k p
eqb_suc k p = grind (arith, nat_tests)

module _ (v a : ℕ) (stars : List ℕ) where
  -- a first star that holds v
  module _ (in-a : has a v ≡ true) where
    -- counts one more if it passes
    holding_here : (test : ℕ → Bool) → holding test v (a ∷ stars) ≡ one (test a) + holding test v stars
    holding_here test =
        sum_by-cons (λ b. one (test b && has b v)) a stars ∙ ap (λ b. one b + holding test v stars) (rest (test a))
      where
        rest : (b : Bool) → (b && has a v) ≡ b
        rest true = in-a
        rest false = refl

    once_here : None v stars → Once v (a ∷ stars) 0
    once_here n = record {
      below = omega arith;
      at = at_here;
      tests = λ test. let h = holding_here test in let k = n.tests test in omega arith;
    }
      where
        at_here : (k : ℕ) → k < length (a ∷ stars) → has (nth_star (a ∷ stars) k) v ≡ eqb k 0
        at_here zero l = in-a
        at_here (suc k) l = n.at k (omega arith) ∙ grind (arith, nat_tests)

    twice_here : {p : ℕ} → Once v stars p → Twice v (a ∷ stars) (0, suc p)
    twice_here {p} o = record {
      rises = omega arith;
      below = omega (arith, o.below);
      at = at_here;
      tests = λ test. holding_here test ∙ ap (λ x. one (test a) + x) (o.tests test);
    }
      where
        at_here : (k : ℕ) → k < length (a ∷ stars) → has (nth_star (a ∷ stars) k) v ≡ stands k (0, suc p)
        at_here zero l = in-a
        at_here (suc k) l = o.at k (omega arith) ∙ grind (arith, nat_tests)

  -- a first star that does not hold v
  module _ (off-a : has a v ≡ false) where
    -- counts nothing
    holding_later : (test : ℕ → Bool) → holding test v (a ∷ stars) ≡ holding test v stars
    holding_later test =
        sum_by-cons (λ b. one (test b && has b v)) a stars ∙ ap (λ b. one b + holding test v stars) (rest (test a)) ∙ zero-add _
      where
        rest : (b : Bool) → (b && has a v) ≡ false
        rest true = off-a
        rest false = refl

    -- who holds v is told by the places of the rest
    at_later : (q : ℕ → Bool) → q 0 ≡ false → ((k : ℕ) → k < length stars → has (nth_star stars k) v ≡ q (suc k))
        → (k : ℕ) → k < length (a ∷ stars) → has (nth_star (a ∷ stars) k) v ≡ q k
    at_later q first rest zero l = off-a ∙ sym first
    at_later q first rest (suc k) l = rest k (omega arith)

    none_later : None v stars → None v (a ∷ stars)
    none_later n = record { at = at_later (λ k. false) refl n.at; tests = λ test. holding_later test ∙ n.tests test }

    once_later : {p : ℕ} → Once v stars p → Once v (a ∷ stars) (suc p)
    once_later {p} o = record {
      below = omega (arith, o.below);
      at = at_later (λ k. eqb k (suc p)) (grind (arith, nat_tests)) (λ k l. o.at k l ∙ sym (eqb_suc k p));
      tests = λ test. holding_later test ∙ o.tests test;
    }

    twice_later : {e : Ends} → Twice v stars e → Twice v (a ∷ stars) (suc e.0, suc e.1)
    twice_later {e} w = record {
      rises = omega (arith, w.rises);
      below = omega (arith, w.below);
      at = at_later (λ k. stands k (suc e.0, suc e.1)) (grind (arith, nat_tests))
          (λ k l. w.at k l ∙ ap₂ ◌||◌ (sym (eqb_suc k e.0)) (sym (eqb_suc k e.1)));
      tests = λ test. holding_later test ∙ w.tests test;
    }

-- how many stars hold v says which
none_of : (v : ℕ) (stars : List ℕ) → holding any v stars ≡ 0 → None v stars
none_of v [] h = record { at = λ k l. absurd (omega arith); tests = λ test. refl }
none_of v (a ∷ stars) h =
    ⊎_elim
    (λ x. absurd (let k = holding_here v a stars x any in omega arith))
    (λ x. none_later v a stars x (none_of v stars (sym (holding_later v a stars x any) ∙ h)))
    (cases_Bool (has a v))

once_of : (v : ℕ) (stars : List ℕ) → holding any v stars ≡ 1 → Once v stars (place v stars)
unfolding place
once_of v [] h = absurd (omega arith)
once_of v (a ∷ stars) h =
    ⊎_elim
    (λ x. subst (Once v (a ∷ stars)) (sym (cond-true _ _ _ x))
    (once_here v a stars x (none_of v stars (let k = holding_here v a stars x any in omega arith))))
    (λ x. subst (Once v (a ∷ stars)) (sym (cond-false _ _ _ x))
    (once_later v a stars x (once_of v stars (sym (holding_later v a stars x any) ∙ h))))
    (cases_Bool (has a v))

-- a baseline that two stars of a list hold is in those at its two places, and in no other
pub twice_of : (v : ℕ) (stars : List ℕ) → holding any v stars ≡ 2 → Twice v stars (places_of stars v)
unfolding place second_place
twice_of v [] h = absurd (omega arith)
twice_of v (a ∷ stars) h =
    ⊎_elim
    (λ x. subst₂ (λ p q. Twice v (a ∷ stars) (p, suc q)) (sym (cond-true _ _ _ x)) (sym (cond-true _ _ _ x))
    (twice_here v a stars x (once_of v stars (let k = holding_here v a stars x any in omega arith))))
    (λ x. subst₂ (λ p q. Twice v (a ∷ stars) (p, suc q)) (sym (cond-false _ _ _ x)) (sym (cond-false _ _ _ x))
    (twice_later v a stars x (twice_of v stars (sym (holding_later v a stars x any) ∙ h))))
    (cases_Bool (has a v))

-- One star more at the end of the list: a baseline in it gets the new place for its first if it has none yet, else for its second.
use Rattle.std.proofs.Common.{◌≡◌, ℕ, suc, Bool, true, false, cond, ◌&&◌, ltb, List, [], ◌∷◌, ◌++◌, length, refl, ap, ◌∙◌, arith}
use Rattle.std.proofs.lemmas.Bool.Decides.{nat_tests}
use Rattle.bitset.specs.Sets.{has}
use Rattle.theory.specs.Imagers.{place, second_place}

-- a place p in a list of length n, which has one star more, at n, if `new`
abbrev pub pushed : ℕ → ℕ → Bool → ℕ
pushed p n new = cond (ltb p n) p (cond new n (suc n))

pushed_suc : (p n : ℕ) (new : Bool) → suc (pushed p n new) ≡ pushed (suc p) (suc n) new
pushed_suc p n new = grind (arith, nat_tests)

-- the first place of v, with the star a put at the end
pub place_push : (v a : ℕ) (stars : List ℕ) → place v (stars ++ a ∷ []) ≡ pushed (place v stars) (length stars) (has a v)
unfolding place
place_push v a [] = refl
place_push v a (b ∷ stars) = here (has b v) (place_push v a stars)
  where
    here : (in_b : Bool) → place v (stars ++ a ∷ []) ≡ pushed (place v stars) (length stars) (has a v)
        → cond in_b 0 (suc (place v (stars ++ a ∷ []))) ≡ pushed (cond in_b 0 (suc (place v stars))) (suc (length stars)) (has a v)
    here true e = grind (arith, nat_tests)
    here false e = ap suc e ∙ pushed_suc (place v stars) (length stars) (has a v)

-- the second place of v: a takes it if v had a first place and no second
pub second_push : (v a : ℕ) (stars : List ℕ)
    → second_place v (stars ++ a ∷ []) ≡ pushed (second_place v stars) (length stars) (ltb (place v stars) (length stars) && has a v)
unfolding place second_place
second_push v a [] = alone (has a v)
  where
    alone : (in-a : Bool) → suc (cond in-a 0 0) ≡ 1
    alone true = refl
    alone false = refl
second_push v a (b ∷ stars) = here (has b v) (second_push v a stars)
  where
    p : ℕ
    p = place v stars

    s : ℕ
    s = second_place v stars

    n : ℕ
    n = length stars

    first_in : (n : ℕ) (new : Bool) → new ≡ (ltb 0 (suc n) && new)
    first_in n new = grind (arith, nat_tests)

    ltb_suc : (p n : ℕ) → ltb p n ≡ ltb (suc p) (suc n)
    ltb_suc p n = grind (arith, nat_tests)

    here : (in_b : Bool) → second_place v (stars ++ a ∷ []) ≡ pushed s n (ltb p n && has a v)
        → suc (cond in_b (place v (stars ++ a ∷ [])) (second_place v (stars ++ a ∷ [])))
        ≡ pushed (suc (cond in_b p s)) (suc n) (ltb (cond in_b 0 (suc p)) (suc n) && has a v)
    here true e =
        ap suc (place_push v a stars) ∙ pushed_suc p n (has a v)
        ∙ ap (pushed (suc p) (suc n)) (first_in n (has a v))
    here false e =
        ap suc e ∙ pushed_suc s n (ltb p n && has a v)
        ∙ ap (λ x. pushed (suc s) (suc n) (x && has a v)) (ltb_suc p n)

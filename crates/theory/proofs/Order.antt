-- The lists of the baselines at imagers, and their order.
use Rattle.std.proofs.Common.{◌≡◌, ℕ, zero, suc, ◌+◌, ◌<◌, ◌≤◌, Bool, true, false, cond, ◌&&◌, ◌||◌, eqb, ltb, leb, List, [], ◌∷◌, sym, refl, ap, ◌∙◌, subst, ap₂, subst₂, inl, inr, ⊎_elim, arith}
use Rattle.std.proofs.lemmas.Bool.Decides.{nat_tests}
use Rattle.std.proofs.lemmas.Bool.{cases_eq}
use Rattle.theory.specs.Layout.{Ends, stands}
use Rattle.theory.specs.Numbers.{Ahead, baselines_from, baselines_at}

-- a list stands in order with itself
ahead_same : (xs : List ℕ) → Ahead xs xs
ahead_same [] = tt
ahead_same (x ∷ xs) = inr (refl, ahead_same xs)

-- equal lists stand in either order
pub ahead_equal : (xs ys : List ℕ) → xs ≡ ys → Ahead xs ys
ahead_equal xs ys h = subst (Ahead xs) h (ahead_same xs)

-- two lists that stand in both orders are equal
pub ahead_both : (xs ys : List ℕ) → Ahead xs ys → Ahead ys xs → xs ≡ ys
ahead_both [] [] h k = refl
ahead_both [] (y ∷ ys) h k = absurd h
ahead_both (x ∷ xs) [] h k = absurd k
ahead_both (x ∷ xs) (y ∷ ys) (inl h) (inl k) = absurd (omega arith)
ahead_both (x ∷ xs) (y ∷ ys) (inl h) (inr k) = absurd (omega arith)
ahead_both (x ∷ xs) (y ∷ ys) (inr h) (inl k) = absurd (omega arith)
ahead_both (x ∷ xs) (y ∷ ys) (inr h) (inr k) = ap₂ ◌∷◌ h.0 (ahead_both xs ys h.1 k.1)

-- whether a list names j
named : ℕ → List ℕ → Bool
named j [] = false
named j (x ∷ xs) = eqb j x || named j xs

-- one baseline more, if it is at the imager
named_cond : (j i : ℕ) (xs : List ℕ) (b : Bool) → named j (cond b (i ∷ xs) xs) ≡ ((b && eqb j i) || named j xs)
unfolding named
named_cond j i xs true = refl
named_cond j i xs false = refl

-- those of the n + 1 baselines from i on are i and those of the n from i + 1 on
range_step : (i j n : ℕ) (s r : Bool) → (j ≡ i → s ≡ r)
    → ((s && eqb j i) || ((leb (i + 1) j && ltb j (i + 1 + n)) && r)) ≡ ((leb i j && ltb j (i + suc n)) && r)
range_step i j n s r h = ⊎_elim (λ e. let k = h e in grind (arith, nat_tests)) (λ d. grind (arith, nat_tests)) (cases_eq j i)

-- the list of imager a names those of the n baselines from i on that are at a
named_from : (e : ℕ → Ends) (a i n j : ℕ) → named j (baselines_from e a i n) ≡ ((leb i j && ltb j (i + n)) && stands a (e j))
unfolding named
named_from e a i zero j = empty (stands a (e j))
  where
    empty : (r : Bool) → false ≡ ((leb i j && ltb j (i + 0)) && r)
    empty r = grind (arith, nat_tests)
named_from e a i (suc n) j =
    named_cond j i _ (stands a (e i))
    ∙ ap (λ r. (stands a (e i) && eqb j i) || r) (named_from e a (i + 1) n j)
    ∙ range_step i j n _ _ (λ p. ap (λ k. stands a (e k)) (sym p))

-- of the baselines below n it names those at a
named_at : (n : ℕ) (e : ℕ → Ends) (a i : ℕ) → i < n → named i (baselines_at n e a) ≡ stands a (e i)
named_at n e a i l = named_from e a 0 n i ∙ inside (stands a (e i))
  where
    inside : (r : Bool) → ((leb 0 i && ltb i (0 + n)) && r) ≡ r
    inside r = grind (arith, nat_tests)

-- equal lists are of imagers with the same baselines
pub same_baselines : (n : ℕ) (e f : ℕ → Ends) (a b : ℕ) → baselines_at n e a ≡ baselines_at n f b
    → (i : ℕ) → i < n → stands a (e i) ≡ stands b (f i)
same_baselines n e f a b h i l = sym (named_at n e a i l) ∙ ap (named i) h ∙ named_at n f b i l

same_from : (e f : ℕ → Ends) (a b i n : ℕ) → ((j : ℕ) → j < i + n → stands a (e j) ≡ stands b (f j))
    → baselines_from e a i n ≡ baselines_from f b i n
same_from e f a b i zero h = refl
same_from e f a b i (suc n) h =
    ap₂ (λ s xs. cond s (i ∷ xs) xs) (h i (omega arith)) (same_from e f a b (i + 1) n (λ j l. h j (omega arith)))

-- imagers with the same baselines have equal lists
pub same_list : (n : ℕ) (e f : ℕ → Ends) (a b : ℕ) → ((i : ℕ) → i < n → stands a (e i) ≡ stands b (f i))
    → baselines_at n e a ≡ baselines_at n f b
same_list n e f a b h = same_from e f a b 0 n (λ j l. h j (omega arith))

-- a list that begins below k comes before one of baselines from k on
ahead_past : (f : ℕ → Ends) (b x : ℕ) (xs : List ℕ) (k n : ℕ) → x < k → Ahead (x ∷ xs) (baselines_from f b k n)
ahead_past f b x xs k zero h = tt
ahead_past f b x xs k (suc n) h = pick (stands b (f k)) (ahead_past f b x xs (k + 1) n (omega arith))
  where
    pick : (s : Bool) → Ahead (x ∷ xs) (baselines_from f b (k + 1) n)
        → Ahead (x ∷ xs) (cond s (k ∷ baselines_from f b (k + 1) n) (baselines_from f b (k + 1) n))
    pick true r = inl h
    pick false r = r

-- a baseline that both or neither of two lists begin with leaves their order as it is
ahead_cond : (x : ℕ) (xs ys : List ℕ) (s : Bool) → Ahead xs ys → Ahead (cond s (x ∷ xs) xs) (cond s (x ∷ ys) ys)
ahead_cond x xs ys true h = inr (refl, h)
ahead_cond x xs ys false h = h

ahead_from : (e f : ℕ → Ends) (a b x i n : ℕ) → i ≤ x → x < i + n → stands a (e x) ≡ true → stands b (f x) ≡ false
    → ((j : ℕ) → j < x → stands a (e j) ≡ stands b (f j))
    → Ahead (baselines_from e a i n) (baselines_from f b i n)
ahead_from e f a b x i zero low high at off same = absurd (omega arith)
ahead_from e f a b x i (suc n) low high at off same =
    ⊎_elim here (λ d. later d (ahead_from e f a b x (i + 1) n (omega arith) (omega arith) at off same)) (cases_eq x i)
  where
    mine : List ℕ
    mine = baselines_from e a (i + 1) n

    other : List ℕ
    other = baselines_from f b (i + 1) n

    here : x ≡ i → Ahead (cond (stands a (e i)) (i ∷ mine) mine) (cond (stands b (f i)) (i ∷ other) other)
    here p =
        subst₂ (λ s r. Ahead (cond s (i ∷ mine) mine) (cond r (i ∷ other) other))
        (sym at ∙ ap (λ k. stands a (e k)) p) (sym off ∙ ap (λ k. stands b (f k)) p)
        (ahead_past f b i mine (i + 1) n (omega arith))

    later : (x ≡ i → ⊥) → Ahead mine other → Ahead (cond (stands a (e i)) (i ∷ mine) mine) (cond (stands b (f i)) (i ∷ other) other)
    later d h =
        subst (λ r. Ahead (cond (stands a (e i)) (i ∷ mine) mine) (cond r (i ∷ other) other))
        (same i (omega arith)) (ahead_cond i mine other (stands a (e i)) h)

-- where two imagers differ first, the one that is at the baseline comes first
pub ahead_first : (n : ℕ) (e f : ℕ → Ends) (a b x : ℕ) → x < n → stands a (e x) ≡ true → stands b (f x) ≡ false
    → ((j : ℕ) → j < x → stands a (e j) ≡ stands b (f j))
    → Ahead (baselines_at n e a) (baselines_at n f b)
ahead_first n e f a b x l at off same = ahead_from e f a b x 0 n (omega arith) (omega arith) at off same

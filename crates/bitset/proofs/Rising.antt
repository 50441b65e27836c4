-- The list of a set's members, from which an iterator takes the lowest one at each step.
use Rattle.std.proofs.Common.{◌≡◌, ℕ, zero, suc, ◌+◌, ◌^◌, ◌<◌, ◌≤◌, Bool, true, false, cond, not, ◌&&◌, eqb, List, [], ◌∷◌, ◌++◌, length, get_or, All, filter, sym, refl, ap, ◌∙◌, subst, ⊎_elim, arith}
use lib.Count.{count_trailing_zeros, trailing_of_zero}
use Rattle.std.specs.List.{range_with_len}
use Rattle.std.proofs.lemmas.Bool.{cases_eq, cond-true, cond-false, false_from_ne_true}
use Rattle.std.proofs.lemmas.Bool.Decides.{nat_tests}
use Rattle.std.proofs.lemmas.List.Elements.{All-head, All-tail, All-nil, All-cons, All-get_or}
use Rattle.bitset.specs.Sets.{has, members, lowest, drop, Lowest, Highest}
use Rattle.bitset.proofs.Members.{has_none, has_drop, has_lt, drop_lt, lowest_is}

-- ---- what a test keeps of n numbers from a on

module _ (p : ℕ → Bool) where
  none_kept : (a n : ℕ) → ((k : ℕ) → a ≤ k → p k ≡ false) → filter p (range_with_len a n) ≡ []
  none_kept a zero off = refl
  none_kept a (suc n) off = cond-false _ _ _ (off a (omega arith)) ∙ none_kept (a + 1) n (λ k h. off k (omega arith))

  same_kept : (q : ℕ → Bool) (a n : ℕ) → ((k : ℕ) → a ≤ k → p k ≡ q k) → filter p (range_with_len a n) ≡ filter q (range_with_len a n)
  same_kept q a zero same = refl
  same_kept q a (suc n) same =
      let e = same a (omega arith) in
      let rest = same_kept q (a + 1) n (λ k h. same k (omega arith)) in
      rw (e, rest) refl

  -- i is the lowest that passes, and q is the test without it
  first_kept : (q : ℕ → Bool) (i a n : ℕ) → a ≤ i → i < a + n → p i ≡ true → ((k : ℕ) → k < i → p k ≡ false)
      → ((k : ℕ) → q k ≡ (p k && not (eqb k i))) → filter p (range_with_len a n) ≡ i ∷ filter q (range_with_len a n)
  first_kept q i a zero from to on least is = absurd (omega arith)
  first_kept q i a (suc n) from to on least is =
      ⊎_elim here (λ ne. there ne (first_kept q i (a + 1) n (omega arith) (omega arith) on least is)) (cases_eq a i)
    where
      here : a ≡ i → filter p (range_with_len a (suc n)) ≡ i ∷ filter q (range_with_len a (suc n))
      here e =
          let pa : p a ≡ true = ap p e ∙ on in
          let qa : q a ≡ false = is a ∙ rw pa (grind (arith, nat_tests)) in
          rw (pa, qa) (ap (λ x. x ∷ filter p (range_with_len (a + 1) n)) e
          ∙ ap (λ l. i ∷ l) (same_kept q (a + 1) n (λ k h. sym (is k ∙ grind (arith, nat_tests)))))

      there : (a ≡ i → ⊥) → filter p (range_with_len (a + 1) n) ≡ i ∷ filter q (range_with_len (a + 1) n)
          → filter p (range_with_len a (suc n)) ≡ i ∷ filter q (range_with_len a (suc n))
      there ne rest =
          let pa : p a ≡ false = least a (omega arith) in
          let qa : q a ≡ false = is a ∙ rw pa refl in
          rw (pa, qa) rest

  -- i is the highest that passes, and q is the test without it
  last_kept : (q : ℕ → Bool) (i a n : ℕ) → a ≤ i → i < a + n → p i ≡ true → ((k : ℕ) → i < k → p k ≡ false)
      → ((k : ℕ) → q k ≡ (p k && not (eqb k i))) → filter p (range_with_len a n) ≡ filter q (range_with_len a n) ++ i ∷ []
  last_kept q i a zero from to on greatest is = absurd (omega arith)
  last_kept q i a (suc n) from to on greatest is =
      ⊎_elim here (λ ne. there (is a ∙ grind (arith, nat_tests)) (last_kept q i (a + 1) n (omega arith) (omega arith) on greatest is)) (cases_eq a i)
    where
      here : a ≡ i → filter p (range_with_len a (suc n)) ≡ filter q (range_with_len a (suc n)) ++ i ∷ []
      here e =
          let pa : p a ≡ true = ap p e ∙ on in
          let qa : q a ≡ false = is a ∙ rw pa (grind (arith, nat_tests)) in
          let above : filter p (range_with_len (a + 1) n) ≡ [] = none_kept (a + 1) n (λ k h. greatest k (omega arith)) in
          let others : filter q (range_with_len (a + 1) n) ≡ [] =
          sym (same_kept q (a + 1) n (λ k h. sym (is k ∙ grind (arith, nat_tests)))) ∙ above in
          rw (pa, qa, above, others) (ap (λ x. x ∷ []) e)

      either : (b : Bool) → filter p (range_with_len (a + 1) n) ≡ filter q (range_with_len (a + 1) n) ++ i ∷ []
          → cond b (a ∷ filter p (range_with_len (a + 1) n)) (filter p (range_with_len (a + 1) n))
          ≡ cond b (a ∷ filter q (range_with_len (a + 1) n)) (filter q (range_with_len (a + 1) n)) ++ i ∷ []
      either true rest = ap (λ l. a ∷ l) rest
      either false rest = rest

      there : q a ≡ p a → filter p (range_with_len (a + 1) n) ≡ filter q (range_with_len (a + 1) n) ++ i ∷ []
          → filter p (range_with_len a (suc n)) ≡ filter q (range_with_len a (suc n)) ++ i ∷ []
      there same rest =
          either (p a) rest ∙ ap (λ b. cond b (a ∷ filter q (range_with_len (a + 1) n)) (filter q (range_with_len (a + 1) n)) ++ i ∷ []) (sym same)

  -- what holds of all that are kept holds of each that passes, and the other way round
  each_kept : (P : ℕ → Type 0) (a n : ℕ) → All P (filter p (range_with_len a n)) → (w : ℕ) → a ≤ w → w < a + n → p w ≡ true → P w
  each_kept P a zero all w from to on = absurd (omega arith)
  each_kept P a (suc n) all w from to on =
      ⊎_elim
      (λ e. subst P (sym e) (All-head P a _ (subst (All P) (cond-true _ _ _ (ap p (sym e) ∙ on)) all)))
      (λ ne. each_kept P (a + 1) n (rest (p a) all) w (omega arith) (omega arith) on)
      (cases_eq w a)
    where
      rest : (b : Bool) → All P (cond b (a ∷ filter p (range_with_len (a + 1) n)) (filter p (range_with_len (a + 1) n))) → All P (filter p (range_with_len (a + 1) n))
      rest true h = All-tail P a _ h
      rest false h = h

  kept_each : (P : ℕ → Type 0) (a n : ℕ) → ((w : ℕ) → w < a + n → p w ≡ true → P w) → All P (filter p (range_with_len a n))
  kept_each P a zero each = All-nil P
  kept_each P a (suc n) each = more (p a) refl (kept_each P (a + 1) n (λ w l. each w (omega arith)))
    where
      more : (b : Bool) → p a ≡ b → All P (filter p (range_with_len (a + 1) n)) → All P (cond b (a ∷ filter p (range_with_len (a + 1) n)) (filter p (range_with_len (a + 1) n)))
      more true e rest = All-cons P a _ (each a (omega arith) e) rest
      more false e rest = rest

-- ---- the members of a set

-- nothing has none
pub members_none : (m : ℕ) → m ≡ 0 → members m ≡ []
unfolding members
members_none m e = none_kept (has m) 0 64 (λ k _. ap (λ x. has x k) e ∙ has_none k)

-- the lowest comes first
pub members_next : (m m' i : ℕ) → Lowest m i → ((k : ℕ) → has m' k ≡ (has m k && not (eqb k i))) → members m ≡ i ∷ members m'
unfolding members
members_next m m' i low is = first_kept (has m) (has m') i 0 64 (omega arith) low.below low.member low.least is

-- the highest comes last
pub members_last : (m m' i : ℕ) → Highest m i → ((k : ℕ) → has m' k ≡ (has m k && not (eqb k i))) → members m ≡ members m' ++ i ∷ []
unfolding members
members_last m m' i high is = last_kept (has m) (has m') i 0 64 (omega arith) high.below high.member high.greatest is

-- the first in the list is the lowest, and 64 where there is none
pub first_is : (m : ℕ) → m < 2 ^ 64 → get_or (members m) 0 64 ≡ lowest m
first_is m l = ⊎_elim none some (cases_eq m 0)
  where
    none : m ≡ 0 → get_or (members m) 0 64 ≡ lowest m
    none z = ap (λ is. get_or is 0 64) (members_none m z) ∙ sym (ap lowest z ∙ trailing_of_zero 64)

    some : (m ≡ 0 → ⊥) → get_or (members m) 0 64 ≡ lowest m
    some ne = ap (λ is. get_or is 0 64) (members_next m (drop m (lowest m)) (lowest m) (lowest_is m ne l) (λ k. has_drop m (lowest m) k l))

-- the next one is the lowest of the others
pub second_is : (m : ℕ) → m < 2 ^ 64 → get_or (members m) 1 64 ≡ lowest (drop m (lowest m))
unfolding count_trailing_zeros
second_is m l = ⊎_elim none some (cases_eq m 0)
  where
    none : m ≡ 0 → get_or (members m) 1 64 ≡ lowest (drop m (lowest m))
    none z = ap (λ is. get_or is 1 64) (members_none m z) ∙ sym (ap (λ x. lowest (drop x (lowest x))) z ∙ trailing_of_zero 64)

    some : (m ≡ 0 → ⊥) → get_or (members m) 1 64 ≡ lowest (drop m (lowest m))
    some ne =
        ap (λ is. get_or is 1 64) (members_next m (drop m (lowest m)) (lowest m) (lowest_is m ne l) (λ k. has_drop m (lowest m) k l))
        ∙ first_is (drop m (lowest m)) (drop_lt m (lowest m) l)

-- what holds of all members holds of each
pub each_member : (P : ℕ → Type 0) (m : ℕ) → m < 2 ^ 64 → All P (members m) → (w : ℕ) → has m w ≡ true → P w
unfolding members
each_member P m l all w h = each_kept (has m) P 0 64 all w (omega arith) (has_lt 64 m w l h) h

-- and the other way round
pub members_each : (P : ℕ → Type 0) (m : ℕ) → ((w : ℕ) → w < 64 → has m w ≡ true → P w) → All P (members m)
unfolding members
members_each P m each = kept_each (has m) P 0 64 each

-- what is in the list is a member
pub member_at : (m k d : ℕ) → k < length (members m) → (get_or (members m) k d < 64) × (has m (get_or (members m) k d) ≡ true)
member_at m k d l = All-get_or (λ w. (w < 64) × (has m w ≡ true)) (members m) k d l (members_each (λ w. (w < 64) × (has m w ≡ true)) m (λ w b h. (b, h)))

-- what comes first is a member
pub member_front : (m i : ℕ) (is : List ℕ) → members m ≡ i ∷ is → (i < 64) × (has m i ≡ true)
member_front m i is e =
    let P : ℕ → Type 0 = λ w. (w < 64) × (has m w ≡ true) in
    All-head P i is (subst (All P) e (members_each P m (λ w b h. (b, h))))

-- a set with the same list has the same members
list_has : (m n : ℕ) → m < 2 ^ 64 → n < 2 ^ 64 → members m ≡ members n → (k : ℕ) → has m k ≡ true → has n k ≡ true
list_has m n l l' e = each_member (λ w. has n w ≡ true) m l (subst (All (λ w. has n w ≡ true)) (sym e) (members_each (λ w. has n w ≡ true) n (λ w _ h. h)))

-- what comes first is the lowest, and the others are the members without it
pub members_first : (m i : ℕ) (is : List ℕ) → m < 2 ^ 64 → members m ≡ i ∷ is → Lowest m i × (members (drop m i) ≡ is)
members_first m i is l e = (subst (Lowest m) same.0 low, ap (λ j. members (drop m j)) (sym same.0) ∙ same.1)
  where
    low : Lowest m (lowest m)
    low = lowest_is m (λ z. let z' = members_none m z in cc) l

    same : (lowest m ≡ i) × (members (drop m (lowest m)) ≡ is)
    same = let x = members_next m (drop m (lowest m)) (lowest m) low (λ k. has_drop m (lowest m) k l) in (cc, cc)

-- where nothing comes, there is no member
pub members_gone : (m : ℕ) → m < 2 ^ 64 → members m ≡ [] → (k : ℕ) → has m k ≡ false
members_gone m l e k = false_from_ne_true _ (each_member (λ _. ⊥) m l (subst (All (λ _. ⊥)) (sym e) (All-nil (λ _. ⊥))) k)

-- one step of an iterator
pub members_turn : (m m' i : ℕ) → m < 2 ^ 64 → m' < 2 ^ 64 → members m ≡ i ∷ members m'
    → Lowest m i × ((k : ℕ) → has m' k ≡ (has m k && not (eqb k i)))
members_turn m m' i l l' e = (
  first.0,
  λ k. alike _ _ (list_has m' (drop m i) l' less (sym first.1) k) (list_has (drop m i) m' less l' first.1 k) ∙ has_drop m i k l,
)
  where
    first : Lowest m i × (members (drop m i) ≡ members m')
    first = members_first m i (members m') l e

    less : drop m i < 2 ^ 64
    less = drop_lt m i l

    alike : (a b : Bool) → (a ≡ true → b ≡ true) → (b ≡ true → a ≡ true) → a ≡ b
    alike true b f g = sym (f refl)
    alike false true f g = g refl
    alike false false f g = refl

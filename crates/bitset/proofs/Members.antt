-- The laws of the sets of specs/Sets.antt, told by their members.
use Rattle.std.proofs.Common.{◌≡◌, ℕ, zero, suc, ◌+◌, ◌-◌, ◌*◌, ◌/◌, ◌%◌, ◌^◌, ◌<◌, ◌≤◌, min, max, Bool, true, false, cond, not, ◌&&◌, ◌||◌, eqb, ltb, w64, sym, refl, ap, ◌∙◌, ap₂, ⊎_elim, arith}
use lib.Arith.{digits_div, digits_mod}
use lib.Bits.{bit_and, bit_or, bit_xor, and_lt}
use lib.Count.{count_leading_zeros, leading_top}
use Rattle.std.specs.Int.{bit_at}
use Rattle.std.proofs.lemmas.Nat.{pow_pos, pow_below, and_le_l, xor_lt}
use Rattle.std.proofs.lemmas.Nat.Bits.{shr_and_one, bit_at_lowest, bit_at-suc, bit_at-zero, bit_at-lt, bit_at_and, bit_at_or, bit_at_xor, bit_at-pow_same, bit_at-pow_other, bit_at_above, bit_at-trailing_zeros, same_from_bits_below}
use Rattle.std.proofs.lemmas.Bool.{both_ways, cases_eq, cases_lt, cases_order, false_from_ne_true, lt-ltb, le-ltb, eq-eqb, ne_eqb, cond_both}
use Rattle.std.proofs.lemmas.Bool.Decides.{nat_tests}
use Rattle.bitset.specs.Sets.{has, minus, put, drop, lowest, set_of, Lowest, Highest}

-- a member is a bit that is 1
has_bit : (m i : ℕ) → has m i ≡ eqb (bit_at m i) 1
unfolding has
has_bit m zero = ap (λ x. eqb x 1) (sym (bit_at_lowest m))
has_bit m (suc i) = has_bit (m / 2) i ∙ ap (λ x. eqb x 1) (sym (bit_at-suc m i))

bit_has : (m i : ℕ) → bit_at m i ≡ cond (has m i) 1 0
bit_has m i = let l = bit_at-lt m i in rw (has_bit m i) (grind (arith, nat_tests))

-- what is in both of two sets
pub has_and : (a b i : ℕ) → has (bit_and a b) i ≡ (has a i && has b i)
has_and a b i = has_bit _ i ∙ ap (λ x. eqb x 1) (bit_at_and a b i ∙ ap₂ min (bit_has a i) (bit_has b i)) ∙ bool (has a i) (has b i)
  where
    bool : (x y : Bool) → eqb (min (cond x 1 0) (cond y 1 0)) 1 ≡ (x && y)
    bool true true = refl
    bool true false = refl
    bool false true = refl
    bool false false = refl

-- what is in one of two sets or in both
pub has_or : (a b i : ℕ) → has (bit_or a b) i ≡ (has a i || has b i)
has_or a b i = has_bit _ i ∙ ap (λ x. eqb x 1) (bit_at_or a b i ∙ ap₂ max (bit_has a i) (bit_has b i)) ∙ bool (has a i) (has b i)
  where
    bool : (x y : Bool) → eqb (max (cond x 1 0) (cond y 1 0)) 1 ≡ (x || y)
    bool true true = refl
    bool true false = refl
    bool false true = refl
    bool false false = refl

-- what is in just one of two sets
pub has_xor : (a b i : ℕ) → has (bit_xor a b) i ≡ cond (has b i) (not (has a i)) (has a i)
has_xor a b i = has_bit _ i ∙ ap (λ x. eqb x 1) (bit_at_xor a b i ∙ ap₂ (λ x y. (x + y) % 2) (bit_has a i) (bit_has b i)) ∙ bool (has a i) (has b i)
  where
    bool : (x y : Bool) → eqb ((cond x 1 0 + cond y 1 0) % 2) 1 ≡ cond y (not x) x
    bool true true = refl
    bool true false = refl
    bool false true = refl
    bool false false = refl

-- what is in the first of two sets and not in the second
pub has_minus : (a b i : ℕ) → has (minus a b) i ≡ (has a i && not (has b i))
unfolding minus
has_minus a b i = has_xor a (bit_and a b) i ∙ ap (λ x. cond x (not (has a i)) (has a i)) (has_and a b i) ∙ bool (has a i) (has b i)
  where
    bool : (x y : Bool) → cond (x && y) (not x) x ≡ (x && not y)
    bool true true = refl
    bool true false = refl
    bool false y = refl

-- 0 has no member
pub has_none : (i : ℕ) → has 0 i ≡ false
has_none i = has_bit 0 i ∙ ap (λ x. eqb x 1) (bit_at-zero i)

-- the set of i alone has i and nothing else
pub has_single : (i j : ℕ) → has (2 ^ i) j ≡ eqb i j
has_single i j =
    has_bit _ j
    ∙ ⊎_elim
    (λ e. ap (λ k. eqb (bit_at (2 ^ i) k) 1) (sym e) ∙ ap (λ x. eqb x 1) (bit_at-pow_same i) ∙ sym (eq-eqb i j e))
    (λ ne. ap (λ x. eqb x 1) (bit_at-pow_other i j (λ h. ne (sym h))) ∙ sym (ne_eqb i j ne))
    (cases_eq i j)

-- so i is in it
pub single_has : (i : ℕ) → has (2 ^ i) i ≡ true
single_has i = has_single i i ∙ eq-eqb i i refl

-- two sets with the same members are equal
pub same_set : (k a b : ℕ) → a < 2 ^ k → b < 2 ^ k → ((i : ℕ) → i < k → has a i ≡ has b i) → a ≡ b
same_set k a b h h' e = same_from_bits_below k a b h h' (λ i l. bit_has a i ∙ ap (λ b. cond b 1 0) (e i l) ∙ sym (bit_has b i))

-- a number that is put together from a low bit and a rest has that low bit
pub has_low : (q r : ℕ) → r < 2 → has (q * 2 + r) 0 ≡ eqb r 1
unfolding has
has_low q r h = ap (λ x. eqb x 1) (digits_mod q h)

-- and above it the members of the rest, one higher
pub has_high : (q r i : ℕ) → r < 2 → has (q * 2 + r) (suc i) ≡ has q i
unfolding has
has_high q r i h = ap (λ x. has x i) (digits_div q h)

cond_lt : (b : Bool) → cond b 1 0 < 2
cond_lt true = omega arith
cond_lt false = omega arith

cond_bit : (b : Bool) → eqb (cond b 1 0) 1 ≡ b
cond_bit true = refl
cond_bit false = refl

-- the set that a test picks has what is below n and passes
pub has_set_of : (p : ℕ → Bool) (n i : ℕ) → has (set_of p n) i ≡ (ltb i n && p i)
unfolding set_of
has_set_of p zero i = has_none i ∙ grind (arith, nat_tests)
has_set_of p (suc n) zero = has_low _ _ (cond_lt (p 0)) ∙ cond_bit (p 0) ∙ grind (arith, nat_tests)
has_set_of p (suc n) (suc i) =
    has_high _ _ i (cond_lt (p 0)) ∙ has_set_of (λ j. p (suc j)) n i ∙ ap (λ x. x && p (suc i)) (grind (arith, nat_tests))

-- and nothing else, so it is below 2 ^ n
pub set_of_lt : (p : ℕ → Bool) (n : ℕ) → set_of p n < 2 ^ n
unfolding set_of
set_of_lt p zero = omega arith
set_of_lt p (suc n) = omega (arith, set_of_lt (λ i. p (suc i)) n, cond_lt (p 0))

-- what the program computes: a test of one bit by a shift and a mask
pub has_shift : (m i : ℕ) → has m i ≡ eqb (bit_and (m / 2 ^ i) 1) 1
has_shift m i = has_bit m i ∙ ap (λ x. eqb x 1) (sym (shr_and_one m i))

-- the low bit and the rest of the complement
not_digits : (k b : ℕ) → b < 2 ^ suc k → 2 ^ suc k - 1 - b ≡ (2 ^ k - 1 - b / 2) * 2 + (1 - b % 2)
not_digits k b h = omega (arith, pow_pos k)

-- the complement, as `!b` computes it at k bits, has what the set has not
pub has_not : (k b i : ℕ) → b < 2 ^ k → i < k → has (2 ^ k - 1 - b) i ≡ not (has b i)
unfolding has
has_not zero b i h l = absurd (omega arith)
has_not (suc k) b zero h l =
    ap (λ x. has x 0) (not_digits k b h) ∙ has_low _ (1 - b % 2) (omega arith) ∙ grind (arith, nat_tests)
has_not (suc k) b (suc i) h l =
    ap (λ x. has x (suc i)) (not_digits k b h) ∙ has_high _ (1 - b % 2) i (omega arith) ∙ has_not k (b / 2) i (omega arith) (omega arith)

-- a set with no member is 0
pub empty_set : (k m : ℕ) → m < 2 ^ k → ((i : ℕ) → i < k → has m i ≡ false) → m ≡ 0
empty_set k m h e = same_set k m 0 h (omega (arith, pow_pos k)) (λ i l. e i l ∙ sym (has_none i))

-- a set with a member is not 0
pub not_empty : (m i : ℕ) → has m i ≡ true → m ≡ 0 → ⊥
not_empty m i h z = both_ways _ (ap (λ x. has x i) z ∙ has_none i) h

-- a test that cannot pass fails
pub unless : (b : Bool) → (b ≡ true → ⊥) → b ≡ false
unless = false_from_ne_true

-- a number from k on is no member of a set below 2 ^ k
pub has_past : (k m i : ℕ) → m < 2 ^ k → k ≤ i → has m i ≡ false
has_past k m i l h = has_bit m i ∙ ap (λ x. eqb x 1) (bit_at_above m k i l h)

-- so a member is below k
pub has_lt : (k m i : ℕ) → m < 2 ^ k → has m i ≡ true → i < k
has_lt k m i l e = ⊎_elim (λ h. h) (λ h. absurd (both_ways _ (has_past k m i l h) e)) (cases_lt i k)

-- a set below 2 ^ k stays below it when members are taken away
pub minus_lt : (k a b : ℕ) → a < 2 ^ k → minus a b < 2 ^ k
unfolding minus
minus_lt k a b h = xor_lt k a (bit_and a b) h (omega (arith, and_le_l a b))

-- and so does a set of baselines when one is taken out
pub drop_lt : (m i : ℕ) → m < 2 ^ 64 → drop m i < 2 ^ 64
drop_lt m i l = cond_both _ _ _ (λ a. a < 2 ^ 64) (λ _. minus_lt 64 m (2 ^ i) l) (λ _. l)

-- the set of a number below k alone is below 2 ^ k
pub single_lt : (k i : ℕ) → i < k → 2 ^ i < 2 ^ k
single_lt k i h = pow_below i k h

-- `a & !b` at 64 bits
pub minus_not : (a b : ℕ) → a < 2 ^ 64 → b < 2 ^ 64 → bit_and a (2 ^ 64 - 1 - b) ≡ minus a b
minus_not a b h k =
    same_set 64 _ _ (and_lt 64 a (2 ^ 64 - 1 - b) h (omega arith)) (minus_lt 64 a b h)
    (λ i l. has_and a (2 ^ 64 - 1 - b) i ∙ ap (λ x. has a i && x) (has_not 64 b i k l) ∙ sym (has_minus a b i))

-- the lowest member of a set that is not empty
pub lowest_is : (m : ℕ) → (m ≡ 0 → ⊥) → m < 2 ^ 64 → Lowest m (lowest m)
lowest_is m ne h =
    let x = bit_at-trailing_zeros w64 m (omega arith) h in
    record {
      below = x.0;
      member = has_bit m (lowest m) ∙ ap (λ b. eqb b 1) x.1;
      least = λ k l. has_bit m k ∙ ap (λ b. eqb b 1) (x.2 k l);
    }

-- and the only one
pub lowest_unique : (m i : ℕ) → m < 2 ^ 64 → Lowest m i → i ≡ lowest m
lowest_unique m i l low =
    let its = lowest_is m (not_empty m i low.member) l in
    ⊎_elim
    (λ e. e)
    (⊎_elim
    (λ h. absurd (both_ways _ (its.least i h) low.member))
    (λ h. absurd (both_ways _ (low.least (lowest m) h) its.member)))
    (cases_order i (lowest m))

-- what is below it is no member
pub below_lowest : (m k : ℕ) → m < 2 ^ 64 → k < lowest m → has m k ≡ false
below_lowest m k l h = false_from_ne_true _ (λ e. both_ways _ ((lowest_is m (not_empty m k e) l).least k h) e)

-- the top digit of a number is a member, and nothing above it is
has_top : (j m : ℕ) → 2 ^ j ≤ m → m < 2 ^ suc j → has m j ≡ true
unfolding has
has_top zero m h l = let e : m % 2 ≡ 1 = omega arith in ap (λ x. eqb x 1) e
has_top (suc j) m h l = has_top j (m / 2) (omega arith) (omega arith)

-- the highest member of a set that is not empty
pub highest_is : (m : ℕ) → (m ≡ 0 → ⊥) → m < 2 ^ 64 → Highest m (63 - count_leading_zeros 64 m)
highest_is m ne h =
    let x = leading_top 64 m (omega arith) h in
    let e : 63 - count_leading_zeros 64 m ≡ x.0 = omega (arith, x.1) in
    rw e (record {
      below = omega (arith, x.1);
      member = has_top x.0 m x.2 x.3;
      greatest = λ k l. has_past (suc x.0) m k x.3 (omega arith);
    })

-- one member more
pub has_put : (m i k : ℕ) → has (put m i) k ≡ (has m k || (eqb k i && ltb i 64))
has_put m i k = ⊎_elim inside past (cases_lt i 64)
  where
    inside : i < 64 → has (put m i) k ≡ (has m k || (eqb k i && ltb i 64))
    inside h = let e = lt-ltb i 64 h in simp (e, has_or, has_single) (grind (arith, nat_tests))

    past : 64 ≤ i → has (put m i) k ≡ (has m k || (eqb k i && ltb i 64))
    past h = let e = le-ltb i 64 h in simp e (grind (arith, nat_tests))

-- one member fewer
pub has_drop : (m i k : ℕ) → m < 2 ^ 64 → has (drop m i) k ≡ (has m k && not (eqb k i))
has_drop m i k l = ⊎_elim inside past (cases_lt i 64)
  where
    inside : i < 64 → has (drop m i) k ≡ (has m k && not (eqb k i))
    inside h = let e = lt-ltb i 64 h in simp (e, has_minus, has_single) (grind (arith, nat_tests))

    past : 64 ≤ i → has (drop m i) k ≡ (has m k && not (eqb k i))
    past h = let e = le-ltb i 64 h in let p = has_past 64 m i l h in simp e (grind (arith, nat_tests, p))

-- How many numbers below a bound pass a test, and how many members of a set are there.
use Rattle.std.proofs.Common.{◌≡◌, ℕ, zero, suc, ◌+◌, ◌<◌, ◌≤◌, Bool, true, false, cond, refl, ap, ◌∙◌, ap₂, ⊎_elim, arith}
use lib.Bits.{bit_or}
use Rattle.std.proofs.lemmas.Bool.{cases_eq, or_right, eq-eqb}
use Rattle.std.proofs.lemmas.Bool.Decides.{nat_tests}
use Rattle.bitset.specs.Sets.{has, single}
use Rattle.bitset.proofs.Members.{has_or, has_single}

-- The numbers below n that pass, counted.
unfoldable pub how_many : (ℕ → Bool) → ℕ → ℕ
how_many p zero = 0
how_many p (suc n) = cond (p n) 1 0 + how_many p n

-- no more pass than there are
pub how_many_le : (p : ℕ → Bool) (n : ℕ) → how_many p n ≤ n
unfolding how_many
how_many_le p zero = omega arith
how_many_le p (suc n) = omega (arith, how_many_le p n, one_or_none (p n))
  where
    one_or_none : (b : Bool) → cond b 1 0 ≤ 1
    one_or_none true = omega arith
    one_or_none false = omega arith

-- tests that are alike below n let as many pass
how_many_alike : (p q : ℕ → Bool) (n : ℕ) → ((i : ℕ) → i < n → q i ≡ p i) → how_many q n ≡ how_many p n
unfolding how_many
how_many_alike p q zero h = refl
how_many_alike p q (suc n) h =
    ap₂ (λ b k. cond b 1 0 + k) (h n (omega arith)) (how_many_alike p q n (λ i l. h i (omega arith)))

-- where the tests are alike but for x, which only the second lets pass, the second lets one more pass
how_many_more : (p q : ℕ → Bool) (x n : ℕ) → x < n → p x ≡ false → q x ≡ true
    → ((i : ℕ) → (i ≡ x → ⊥) → q i ≡ p i) → how_many q n ≡ suc (how_many p n)
unfolding how_many
how_many_more p q x zero l a b h = absurd (omega arith)
how_many_more p q x (suc n) l a b h =
    ⊎_elim last (λ ne. rw (h n ne) (omega (arith, how_many_more p q x n (omega arith) a b h))) (cases_eq n x)
  where
    last : n ≡ x → cond (q n) 1 0 + how_many q n ≡ suc (cond (p n) 1 0 + how_many p n)
    last e =
        let off : p n ≡ false = ap p e ∙ a in
        let on : q n ≡ true = ap q e ∙ b in
        rw (off, on) (omega (arith, how_many_alike p q n (λ i k. h i (omega arith))))

-- one member more is one more that is counted
pub how_many_put : (m v n : ℕ) → v < n → has m v ≡ false → how_many (has (bit_or m (single v))) n ≡ suc (how_many (has m) n)
how_many_put m v n l f =
    how_many_more (has m) (has (bit_or m (single v))) v n l f
    (simp (has_or, has_single) (or_right _ _ (eq-eqb v v refl)))
    (λ i ne. simp (has_or, has_single) (grind (arith, nat_tests)))

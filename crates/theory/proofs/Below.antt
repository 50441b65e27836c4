-- Numbers below a bound: an induction that knows all smaller ones, and a look at each.
use Rattle.std.proofs.Common.{ℕ, zero, suc, ◌<◌, ◌⊎◌, sym, subst, inl, inr, ⊎_elim, arith}
use Rattle.std.proofs.lemmas.Bool.{cases_eq}

-- what holds of a number whenever it holds of all smaller ones holds of each number
pub by_smaller : (P : ℕ → Type 0) → ((n : ℕ) → ((k : ℕ) → k < n → P k) → P n) → (n : ℕ) → P n
by_smaller P step n = step n (below n)
  where
    below : (n k : ℕ) → k < n → P k
    below zero k h = absurd (omega arith)
    below (suc n) k h = step k (λ j l. below n j (omega arith))

-- where each number below n has one property or another, all have the one or some number has the other
pub all_or_some : (P Q : ℕ → Type 0) (n : ℕ) → ((k : ℕ) → k < n → P k ⊎ Q k)
    → ((k : ℕ) → k < n → P k) ⊎ ((k : ℕ) × (k < n) × Q k)
all_or_some P Q zero f = inl (λ k h. absurd (omega arith))
all_or_some P Q (suc n) f = ⊎_elim lower (λ x. inr (x.0, omega (arith, x.1), x.2)) (all_or_some P Q n (λ k h. f k (omega arith)))
  where
    last : ((k : ℕ) → k < n → P k) → P n → (k : ℕ) → k < suc n → P k
    last all p k h = ⊎_elim (λ e. subst P (sym e) p) (λ d. all k (omega arith)) (cases_eq k n)

    lower : ((k : ℕ) → k < n → P k) → ((k : ℕ) → k < suc n → P k) ⊎ ((k : ℕ) × (k < suc n) × Q k)
    lower all = ⊎_elim (λ p. inl (last all p)) (λ q. inr (n, omega arith, q)) (f n (omega arith))

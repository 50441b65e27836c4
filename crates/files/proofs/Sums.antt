-- Sums over the numbers below a bound.
use Rattle.std.proofs.Common.{◌≡◌, ℕ, zero, suc, ◌+◌, ◌*◌, ◌<◌, ◌≤◌, cond, ltb, List, length, refl, ap, ◌∙◌, suc-mul, arith}
use Rattle.std.proofs.lemmas.List.{length-append}
use Rattle.std.proofs.lemmas.Bool.Decides.{nat_tests}
use Rattle.evidence.specs.Pairs.{sum_to}
use Rattle.theory.specs.Layout.{Ends, stands}
use Rattle.files.specs.Each.{each}

-- texts are no longer than the sum of what bounds them
pub length_each_le : (text : ℕ → List ℕ) (size : ℕ → ℕ) (n : ℕ) → ((i : ℕ) → i < n → length (text i) ≤ size i)
    → length (each text n) ≤ sum_to n size
length_each_le text size zero h = omega arith
length_each_le text size (suc n) h =
    omega (arith, length-append (each text n) (text n), h n (omega arith), length_each_le text size n (λ i l. h i (omega arith)))

-- a sum of numbers that are at most k
pub sum_le : (n k : ℕ) (f : ℕ → ℕ) → ((i : ℕ) → i < n → f i ≤ k) → sum_to n f ≤ n * k
sum_le zero k f h = omega arith
sum_le (suc n) k f h = rw suc-mul (omega (arith, h n (omega arith), sum_le n k f (λ i l. h i (omega arith))))

sum_add : (n : ℕ) (f g : ℕ → ℕ) → sum_to n (λ i. f i + g i) ≡ sum_to n f + sum_to n g
sum_add zero f g = refl
sum_add (suc n) f g = omega (arith, sum_add n f g)

sum_zero : (n : ℕ) → sum_to n (λ _. 0) ≡ 0
sum_zero zero = refl
sum_zero (suc n) = omega (arith, sum_zero n)

-- a sum over columns and rows is one over rows and columns
pub sum_swap : (m n : ℕ) (f : ℕ → ℕ → ℕ) → sum_to m (λ a. sum_to n (f a)) ≡ sum_to n (λ i. sum_to m (λ a. f a i))
sum_swap m zero f = sum_zero m
sum_swap m (suc n) f = sum_add m (λ a. f a n) (λ a. sum_to n (f a)) ∙ ap (λ x. sum_to m (λ a. f a n) + x) (sum_swap m n f)

-- at most two imagers are at a baseline
ends_le : (e : Ends) (k m : ℕ) → sum_to m (λ a. cond (stands a e) k 0) ≤ cond (ltb e.0 m) k 0 + cond (ltb e.1 m) k 0
ends_le e k zero = omega arith
ends_le e k (suc m) = let less = ends_le e k m in grind (arith, nat_tests)

pub two_ends : (e : Ends) (k m : ℕ) → sum_to m (λ a. cond (stands a e) k 0) ≤ k + k
two_ends e k m = let less = ends_le e k m in grind (arith, nat_tests)

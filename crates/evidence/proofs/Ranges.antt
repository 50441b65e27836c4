-- What `all` tells over the numbers below n.
use Rattle.std.proofs.Common.{◌≡◌, ℕ, ◌<◌, Bool, true, false, ◌↔◌, length, get_or, refl, subst, ◌∙◌, zero-add, arith, MatchBool}
use Rattle.std.proofs.lemmas.Bool.{false≢true}
use Rattle.std.specs.List.{range_with_len, AllWithin, HoldsAt}
use Rattle.std.proofs.lemmas.List.FromFn.{length-range_with_len, get_or-range_with_len}

-- the number at place k is k
number_at : (n k : ℕ) → k < n → get_or (range_with_len 0 n) k 0 ≡ k
number_at n k l = get_or-range_with_len 0 n k 0 l ∙ zero-add k

-- it answers true exactly where each number has the fact, if it answers false only at one that has not
pub all_below : (n : ℕ) (Yes No : ℕ → Type 0) (r : Bool) → ((k : ℕ) → Yes k → No k → ⊥)
    → MatchBool r (AllWithin Yes (range_with_len 0 n) 0 (length (range_with_len 0 n))) ((k : ℕ) × (k < length (range_with_len 0 n)) × HoldsAt No (range_with_len 0 n) k)
    → (r ≡ true) ↔ ((k : ℕ) → k < n → Yes k)
all_below n Yes No true off h = (
  (λ _ k l. subst Yes (number_at n k l) (h k 0 (omega arith) (omega (arith, length-range_with_len 0 n)))),
  (λ _. refl),
)
all_below n Yes No false off h = (
  (λ e. absurd (false≢true e)),
  (λ all.
      let l : h.0 < n = omega (arith, h.1, length-range_with_len 0 n) in
      absurd (off h.0 (all h.0 l) (subst No (number_at n h.0 l) (h.2 0)))),
)

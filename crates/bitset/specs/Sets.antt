-- Sets of numbers below 64, each kept in the bits of one number.
use Rattle.std.specs.Prelude.{◌≡◌, ℕ, zero, suc, ◌+◌, ◌*◌, ◌/◌, ◌%◌, ◌^◌, ◌<◌, Bool, true, false, cond, List, ◌==◌, bit_and, bit_or, bit_xor, nat_lt}
use Rattle.std.specs.Int.Count.{count_trailing_zeros}
use Rattle.std.specs.List.{filter, range_with_len}

-- Whether i is a member: bit i of m is set.
unfoldable pub has : ℕ → ℕ → Bool
has m zero = m % 2 == 1
has m (suc i) = has (m / 2) i

-- The members, rising.
unfoldable pub members : ℕ → List ℕ
members m = filter (has m) (range_with_len 0 64)

-- The members of a that are not in b.
unfoldable pub minus : ℕ → ℕ → ℕ
minus a b = bit_xor a (bit_and a b)

-- The set of i alone.
abbrev pub single : ℕ → ℕ
single i = 2 ^ i

-- The set with i as a member too, if i is below 64.
abbrev pub put : ℕ → ℕ → ℕ
put m i = cond (nat_lt i 64) (bit_or m (single i)) m

-- The set without i.
abbrev pub drop : ℕ → ℕ → ℕ
drop m i = cond (nat_lt i 64) (minus m (single i)) m

-- The numbers below n that pass the test.
unfoldable pub set_of : (ℕ → Bool) → ℕ → ℕ
set_of p zero = 0
set_of p (suc n) = set_of (λ i. p (suc i)) n * 2 + cond (p zero) 1 0

-- The lowest member, or 64 where there is none.
abbrev pub lowest : ℕ → ℕ
lowest m = count_trailing_zeros 64 m

-- i is the lowest member.
pub record Lowest (m i : ℕ) : Type 0 where
  pub below : i < 64
  pub member : has m i ≡ true
  pub least : (k : ℕ) → k < i → has m k ≡ false

-- i is the highest member.
pub record Highest (m i : ℕ) : Type 0 where
  pub below : i < 64
  pub member : has m i ≡ true
  pub greatest : (k : ℕ) → i < k → has m k ≡ false

-- The table of a square: a count n, and n rows of n bytes.
use Rattle.std.specs.Prelude.{ℕ, ◌+◌, ◌*◌, ◌<◌, ◌≤◌, Bool, cond, ◌&&◌, List, length, ◌==◌, nat_lt, slice_index}
use Rattle.std.proofs.Common.{⊎_elim, arith}
use Rattle.std.proofs.Math.Bool.{and_comm}
use Rattle.std.proofs.lemmas.Bool.{ltb-true, and_parts, cases_Bool}
use Rattle.evidence.specs.Table.{Table, Sound, of_pairs, pairs_sound}

-- How many baselines a square has: n, if n is at most 64 and there are n × n bytes, else none.
abbrev pub side : ℕ → List ℕ → ℕ
side n bytes = cond (nat_lt n 65 && length bytes == n * n) n 0

-- Whether the byte at a row and a column is 1.
abbrev pub marked : ℕ → List ℕ → ℕ → ℕ → Bool
marked n bytes i j = slice_index bytes (i * n + j) == 1

-- Two different baselines share when the byte at their row and column and its mirror byte are both 1.
abbrev pub squared : ℕ → List ℕ → Table
squared n bytes = of_pairs (side n bytes) (λ i j. marked n bytes i j && marked n bytes j i)

-- The table of a square is sound.
side_few : (n : ℕ) (bytes : List ℕ) → side n bytes ≤ 64
side_few n bytes =
    ⊎_elim
    (λ h. let l : n < 65 = ltb-true n 65 (and_parts _ _ h).0 in rw h (omega arith))
    (λ h. rw h (omega arith))
    (cases_Bool (nat_lt n 65 && length bytes == n * n))

pub squared_sound : (n : ℕ) (bytes : List ℕ) → Sound (squared n bytes)
squared_sound n bytes = pairs_sound (side n bytes) _ (side_few n bytes) (λ i j. and_comm (marked n bytes i j) (marked n bytes j i))

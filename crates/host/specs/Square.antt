-- What the C entry asks of a square.
use Rattle.std.specs.Prelude.{ℕ, ◌+◌, ◌*◌, ◌/◌, ◌%◌, Bool, cond, not, ◌&&◌, ◌||◌, List, length, Some, None, Option, option_map, ◌==◌, nat_lt, slice_index}
use Rattle.evidence.specs.declared.refusal.Refusal.{Refusal}
use Rattle.evidence.specs.declared.refusal.Refusal.TheVariants.{ManyBaselines, SquareSize, SquareByte}
use Rattle.theory.specs.Answer.{lowest_that}

-- The byte at a row and a column.
abbrev pub byte_at : ℕ → List ℕ → ℕ → ℕ → ℕ
byte_at n square i j = slice_index square (i * n + j)

-- Whether the byte at a row and a column is 0 or 1, zero where row equals column, and equal to its mirror.
abbrev pub right_at : ℕ → List ℕ → ℕ → ℕ → Bool
right_at n square i j =
    (nat_lt (byte_at n square i j) 2 && (not (i == j) || byte_at n square i j == 0))
    && byte_at n square i j == byte_at n square j i

-- The first column of a row whose byte is not, and its place in the square.
abbrev pub wrong_column : ℕ → List ℕ → ℕ → Option ℕ
wrong_column n square i = lowest_that (λ j. not (right_at n square i j)) n

abbrev pub wrong_in_row : ℕ → List ℕ → ℕ → Option ℕ
wrong_in_row n square i = option_map (λ j. i * n + j) (wrong_column n square i)

-- The place of the first byte that is not.
abbrev pub first_wrong : ℕ → List ℕ → Option ℕ
first_wrong n square = lowest_that (λ k. not (right_at n square (k / n) (k % n))) (n * n)

abbrev pub byte_refusal : Option ℕ → Option Refusal
byte_refusal None = None
byte_refusal (Some place) = Some (SquareByte place)

-- Why a square is refused before it is placed: is n at most 64, are there n × n bytes, is each byte right?
abbrev pub form_refusal : ℕ → List ℕ → Option Refusal
form_refusal n square =
    cond (nat_lt n 65) (cond (length square == n * n) (byte_refusal (first_wrong n square)) (Some SquareSize)) (Some ManyBaselines)

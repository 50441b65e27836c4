-- How many digits a number below 65,536 has.
use Rattle.std.proofs.Common.{◌≡◌, ℕ, ◌+◌, ◌/◌, ◌^◌, ◌<◌, ◌≤◌, length, decimal, sym, ap, ◌∙◌, arith}
use Rattle.std.proofs.lemmas.List.{length_push}
use Rattle.std.proofs.lemmas.Fmt.{decimal_digit, decimal_step}

pub one_digit : (n : ℕ) → n < 10 → 1 ≡ length (decimal n)
one_digit n h = sym (ap length (decimal_digit n h))

pub digit_more : (n k : ℕ) → 10 ≤ n → n < 2 ^ 16 → k ≡ length (decimal (n / 10)) → k + 1 ≡ length (decimal n)
digit_more n k h small e =
    let s = ap length (decimal_step n h (omega arith)) ∙ length_push (decimal (n / 10)) _ in
    omega (arith, s)

pub two_digits : (n : ℕ) → 10 ≤ n → n < 100 → 2 ≡ length (decimal n)
two_digits n l h = digit_more n 1 l (omega arith) (one_digit (n / 10) (omega arith))

pub three_digits : (n : ℕ) → 100 ≤ n → n < 1000 → 3 ≡ length (decimal n)
three_digits n l h = digit_more n 2 (omega arith) (omega arith) (two_digits (n / 10) (omega arith) (omega arith))

pub four_digits : (n : ℕ) → 1000 ≤ n → n < 10000 → 4 ≡ length (decimal n)
four_digits n l h = digit_more n 3 (omega arith) (omega arith) (three_digits (n / 10) (omega arith) (omega arith))

pub five_digits : (n : ℕ) → 10000 ≤ n → n < 2 ^ 16 → 5 ≡ length (decimal n)
five_digits n l h = digit_more n 4 (omega arith) (omega arith) (four_digits (n / 10) (omega arith) (omega arith))

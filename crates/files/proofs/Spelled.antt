-- Bytes that spell a number, and bytes that do not.
use Rattle.std.proofs.Common.{◌≡◌, ℕ, ◌+◌, ◌-◌, ◌*◌, ◌^◌, ◌<◌, List, [], ◌∷◌, length, get_or, Some, None, decimal, Option, sym, ap, ◌∙◌, subst, ◌⊎◌, ⊎_elim, inl, inr, pow-suc, add-one, arith, rules, MatchOption}
use Rattle.std.specs.Int.{IsInRange}
use Rattle.std.proofs.lemmas.Bool.{cases_lt}
use Rattle.std.proofs.lemmas.Str.Parse.{IsNumeralModel, numerals_by_fold, tells_by_index}
use Rattle.std.proofs.lemmas.Fmt.{decimal-digits_value, digits_value-decimal, digits_decimal, length-decimal-le, decimal_nonempty, first_decimal, decimal_injective}
use Rattle.files.specs.Reading.{Spells, NotNumber}

-- The number that is read when n was read before and some digits follow.
abbrev pub read_on : ℕ → List ℕ → ℕ
read_on n [] = n
read_on n (byte ∷ bytes) = read_on (n * 10 + (byte - 48)) bytes

-- Every byte is a digit.
abbrev pub AllDigits : List ℕ → Type 0
AllDigits bytes = (i : ℕ) → i < length bytes → IsInRange 48 57 (get_or bytes i 0)

own : IsNumeralModel AllDigits (read_on 0)
own = numerals_by_fold AllDigits tells_by_index read_on (search rules)

-- the ways in which bytes spell no number
pub not_empty : (bytes : List ℕ) → length bytes ≡ 0 → NotNumber bytes
not_empty bytes e v h = omega (arith, ap length h.1, decimal_nonempty v (omega arith))

pub not_long : (bytes : List ℕ) → 5 < length bytes → NotNumber bytes
not_long bytes l v h = omega (arith, ap length h.1, length-decimal-le 5 v (omega arith) (omega arith) (omega arith))

pub not_zero_first : (bytes : List ℕ) → get_or bytes 0 0 ≡ 48 → 1 < length bytes → NotNumber bytes
not_zero_first bytes z l v h =
    ⊎_elim
    (λ few. omega (arith, ap length h.1, length-decimal-le 1 v (omega arith) (omega arith) (omega arith)))
    (λ many. omega (arith, ap (λ (x : List ℕ). get_or x 0 0) h.1, first_decimal v (omega arith) (omega arith)))
    (cases_lt v 10)

pub not_begun : (bytes : List ℕ) → (length bytes ≡ 0) ⊎ ((get_or bytes 0 0 ≡ 48) × (1 < length bytes)) → NotNumber bytes
not_begun bytes = ⊎_elim (not_empty bytes) (λ zero. not_zero_first bytes zero.0 zero.1)

pub not_digit : (bytes : List ℕ) (i : ℕ) → i < length bytes → (IsInRange 48 57 (get_or bytes i 0) → ⊥) → NotNumber bytes
not_digit bytes i l bad v h =
    let d : AllDigits bytes = subst AllDigits (sym h.1) (digits_decimal own v (omega arith)) in bad (d i l)

pub not_large : (bytes : List ℕ) → 65535 < read_on 0 bytes → NotNumber bytes
not_large bytes l v h = omega (arith, ap (read_on 0) h.1, digits_value-decimal own v (omega arith))

-- and the way in which they do
pub is_number : (bytes : List ℕ) (n : ℕ) → AllDigits bytes → ((length bytes ≡ 0) ⊎ ((get_or bytes 0 0 ≡ 48) × (1 < length bytes)) → ⊥)
    → read_on 0 bytes ≡ n → n < 65536 → Spells bytes n
is_number bytes n d begun e h =
    let some : 0 < length bytes = ⊎_elim (λ l. l) (λ none. absurd (begun (inl (omega arith)))) (cases_lt 0 (length bytes)) in
    let zero : get_or bytes 0 0 ≡ 48 → length bytes ≡ 1 = λ z. ⊎_elim (λ more. absurd (begun (inr (z, more)))) (λ one. omega arith) (cases_lt 1 (length bytes)) in
    (h, sym (rw e at (decimal-digits_value own bytes d some zero (omega arith))))

-- k digits are a number below the k-th power of ten
pub power_more : (n i d : ℕ) → n < 10 ^ i → d < 10 → n * 10 + d < 10 ^ (i + 1)
power_more n i d h l = rw (add-one, pow-suc) (omega arith)

-- what is read of the digits of a number is the number
pub read_once : (bytes : List ℕ) (n : ℕ) (r : Option ℕ) → n < 65536 → bytes ≡ decimal n → MatchOption r (NotNumber bytes) (λ v. Spells bytes v) → r ≡ Some n
read_once bytes n None h e read = absurd (read n (h, e))
read_once bytes n (Some v) h e read = ap Some (decimal_injective v n (omega arith) (omega arith) (sym read.1 ∙ e))

-- Every row and column of a square has its byte.
use Rattle.std.proofs.Common.{◌≡◌, ℕ, ◌+◌, ◌*◌, ◌<◌, ◌&&◌, eqb, ltb, List, length, sym, subst, ⊎_elim, arith}
use Rattle.std.proofs.lemmas.Nat.{mul-add-lt}
use Rattle.std.proofs.lemmas.Bool.{and_parts, cases_Bool, eqb-true}
use Rattle.evidence.specs.Square.{side}

-- by the side of the square
in_side : (n : ℕ) (bytes : List ℕ) (i j : ℕ) → i < side n bytes → j < side n bytes → i * side n bytes + j < length bytes
in_side n bytes i j =
    ⊎_elim
    (λ h. rw h (λ k l. let e = eqb-true (length bytes) (n * n) (and_parts _ _ h).1 in rw e (mul-add-lt i n j n k l)))
    (λ h. rw h (λ k l. absurd (omega arith)))
    (cases_Bool (ltb n 65 && eqb (length bytes) (n * n)))

-- by the count that the square tells
pub in_square : (n : ℕ) (bytes : List ℕ) (i j m : ℕ) → m ≡ side n bytes → i < side n bytes → j < side n bytes → i * m + j < length bytes
in_square n bytes i j m count k l =
    let P : ℕ → Type 0 = λ x. i * x + j < length bytes in
    subst P (sym count) (in_side n bytes i j k l)

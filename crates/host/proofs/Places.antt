-- The first wrong byte of a square, found row by row.
use Rattle.std.proofs.Common.{◌≡◌, ℕ, zero, suc, ◌+◌, ◌*◌, ◌/◌, ◌%◌, ◌<◌, ◌≤◌, Bool, true, false, not, List, Some, None, Option, MatchOption, sym, refl, ap, ◌∙◌, ap₂, ⊎_elim, add-mul, one-mul, arith}
use Rattle.std.specs.Option.{option_map}
use Rattle.std.proofs.lemmas.Nat.{mul-add-lt, div-mul-add, mod-mul-add, div_below, mod_below, div-add-mod'}
use Rattle.std.proofs.lemmas.Bool.{cases_lt}
use Rattle.theory.specs.Answer.{lowest_that}
use Rattle.theory.proofs.LowestThat.{none_lowest, some_lowest, lowest_none, lowest_some}
use Rattle.host.specs.Square.{right_at, wrong_column, wrong_in_row, first_wrong}

-- what a search of the numbers below n found, if it is the first that passes, is the lowest
pub lowest_first : (p : ℕ → Bool) (n : ℕ) (o : Option ℕ)
    → MatchOption o ((k : ℕ) → 0 ≤ k → k < n → p k ≡ false) (λ i. (0 ≤ i) × (i < n) × (p i ≡ true) × ((k : ℕ) → 0 ≤ k → k < i → p k ≡ false))
    → o ≡ lowest_that p n
lowest_first p n None h = sym (none_lowest p n (λ k l. h k (omega arith) l))
lowest_first p n (Some i) h = sym (some_lowest p n i h.1 h.2 (λ k l. h.3 k (omega arith) l))

-- a test that answers no is passed
not_false : (b : Bool) → not b ≡ false → b ≡ true
not_false true e = refl
not_false false e = cc

none_mapped : (f : ℕ → ℕ) (o : Option ℕ) → option_map f o ≡ None → o ≡ None
none_mapped f None e = refl
none_mapped f (Some x) e = cc

some_mapped : (f : ℕ → ℕ) (o : Option ℕ) (y : ℕ) → option_map f o ≡ Some y → (x : ℕ) × (o ≡ Some x) × (f x ≡ y)
some_mapped f (Some x) y e = (x, refl, cc)
some_mapped f None y e = absurd cc

-- the first wrong column of a row is a column
pub column_below : (n : ℕ) (square : List ℕ) (r c : ℕ) → wrong_column n square r ≡ Some c → c < n
column_below n square r c e = (lowest_some (λ j. not (right_at n square r j)) n c e).0

-- a row above the first that has a wrong byte is right
row_right : (n : ℕ) (square : List ℕ) (i j : ℕ) → wrong_in_row n square i ≡ None → j < n → right_at n square i j ≡ true
row_right n square i j row l =
    not_false _ (lowest_none (λ j. not (right_at n square i j)) n (none_mapped _ _ row) j l)

-- a square with a place has a row
some_rows : (n k : ℕ) → k < n * n → 0 < n
some_rows zero k l = absurd (omega arith)
some_rows (suc n) k l = omega arith

-- no row has a wrong byte
pub all_right : (n : ℕ) (square : List ℕ) → ((i : ℕ) → i < n → wrong_in_row n square i ≡ None) → first_wrong n square ≡ None
all_right n square none =
    none_lowest _ (n * n) (λ k l.
    let some = some_rows n k l in
    let row = none (k / n) (div_below k n n some l) in
    ap not (row_right n square (k / n) (k % n) row (mod_below k n some)))

-- row r is the first that has one, and c its first wrong column
pub wrong_at : (n : ℕ) (square : List ℕ) (r c : ℕ) → r < n → wrong_column n square r ≡ Some c → ((i : ℕ) → i < r → wrong_in_row n square i ≡ None)
    → first_wrong n square ≡ Some (r * n + c)
wrong_at n square r c below column above =
    some_lowest _ (n * n) (r * n + c) (mul-add-lt r n c n below before.0)
    (ap not (ap₂ (right_at n square) (div-mul-add r n c before.0) (mod-mul-add r n c before.0)) ∙ before.1)
    (λ k l. ap not (earlier k l))
  where
    before : (c < n) × (not (right_at n square r c) ≡ true) × ((j : ℕ) → j < c → not (right_at n square r j) ≡ false)
    before = lowest_some (λ j. not (right_at n square r j)) n c column

    earlier : (k : ℕ) → k < r * n + c → right_at n square (k / n) (k % n) ≡ true
    earlier k l =
        ⊎_elim
        (λ h. row_right n square (k / n) (k % n) (above (k / n) h) (mod_below k n (omega (arith, below))))
        (λ h.
        let over = add-mul r 1 n in
        let one = one-mul n in
        let high : k / n < r + 1 = div_below k n (r + 1) (omega (arith, below)) (omega (arith, over, one, before.0)) in
        let same : k / n ≡ r = omega arith in
        let whole : r * n + k % n ≡ k = ap (λ q. q * n + k % n) (sym same) ∙ div-add-mod' k n in
        ap (λ q. right_at n square q (k % n)) same ∙ not_false _ (before.2 (k % n) (omega arith)))
        (cases_lt (k / n) r)

-- what a search of the rows found, if it is that of the first row that has one, is the first wrong byte
pub first_found : (n : ℕ) (square : List ℕ) (o : Option ℕ)
    → MatchOption o ((k : ℕ) → k < n → wrong_in_row n square k ≡ None)
    (λ p. (i : ℕ) × (i < n) × (wrong_in_row n square i ≡ Some p) × ((k : ℕ) → k < i → wrong_in_row n square k ≡ None))
    → o ≡ first_wrong n square
first_found n square None h = sym (all_right n square h)
first_found n square (Some p) h =
    let x = some_mapped _ _ _ h.2 in
    ap Some (sym x.2) ∙ sym (wrong_at n square h.0 x.0 h.1 x.1 h.3)

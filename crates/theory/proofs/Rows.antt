-- The rows of a sound table say what the table says.
use Rattle.std.proofs.Common.{◌≡◌, ℕ, ◌^◌, ◌<◌, ◌&&◌, sym, ap, ◌∙◌, ⊎_elim, arith}
use Rattle.std.proofs.lemmas.Bool.{cases_lt, lt-ltb, le-ltb, and_left}
use Rattle.bitset.specs.Sets.{has}
use Rattle.bitset.proofs.Members.{has_set_of, set_of_lt}
use Rattle.evidence.specs.Table.{Table, Sound}
use Rattle.theory.specs.Stars.{row}

-- a row is a set of numbers below 64
pub row_lt : (t : Table) (i : ℕ) → row t i < 2 ^ 64
unfolding row
row_lt t i = set_of_lt (t.shares i) 64

-- the row of i holds what shares with i
pub row_has : (t : Table) → Sound t → (i j : ℕ) → has (row t i) j ≡ t.shares i j
unfolding row
row_has t sound i j =
    has_set_of (t.shares i) 64 j
    ∙ ⊎_elim
    (λ h. ap (λ b. b && t.shares i j) (lt-ltb j 64 h))
    (λ h. let few = sound.few in
    and_left _ _ (le-ltb j 64 h) ∙ sym (sound.alike i j ∙ sound.within j i (omega arith)))
    (cases_lt j 64)

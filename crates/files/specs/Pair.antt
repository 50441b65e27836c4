-- What is read of a line word,i,j.
use Rattle.std.specs.Prelude.{◌≡◌, ℕ, zero, suc, ◌<◌, List, [], ◌∷◌, length, Ok, Err, decimal, Result, slice_index_or}
use Rattle.files.specs.declared.pair.BadField.{BadField}
use Rattle.files.specs.Reading.{NotNumber}

-- Whether the field at a place is wrong: any word will do, two numbers follow it, and no field follows them.
-- A field that is missing is read as an empty one, which is no number.
abbrev pub PairWrong : List (List ℕ) → ℕ → Type 0
PairWrong texts zero = ⊥
PairWrong texts (suc zero) = NotNumber (slice_index_or texts 1 [])
PairWrong texts (suc (suc zero)) = NotNumber (slice_index_or texts 2 [])
PairWrong texts (suc (suc (suc k))) = suc (suc (suc k)) < length texts

-- The first place at which something is wrong.
abbrev pub FirstWrong : (ℕ → Type 0) → ℕ → Type 0
FirstWrong wrong k = wrong k × ((j : ℕ) → j < k → wrong j → ⊥)

-- What is answered of a line's fields: the two numbers, or the place of the first wrong field.
abbrev pub PairRead : List (List ℕ) → Result (ℕ × ℕ) BadField → Type 0
PairRead texts (Ok (i, j)) = (word : List ℕ) × (texts ≡ word ∷ decimal i ∷ decimal j ∷ [])
PairRead texts (Err bad) = FirstWrong (PairWrong texts) bad.place

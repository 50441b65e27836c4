-- What a writer does to a buffer.
use Rattle.std.specs.Prelude.{◌≡◌, ℕ, ◌+◌, ◌<◌, ◌≤◌, List, ◌++◌, length, take, drop, Ok, Err, Result}
use Rattle.evidence.specs.declared.refusal.Refusal.{Refusal}
use Rattle.evidence.specs.declared.refusal.Refusal.TheVariants.{NoRoom}

-- The bytes of a buffer with a text written over them from a place on.
abbrev pub splice : List ℕ → ℕ → List ℕ → List ℕ
splice old at text = take at old ++ (text ++ drop (at + length text) old)

-- A buffer became another by a text that was written from one place up to another.
pub record Puts (old new : List ℕ) (at end : ℕ) (text : List ℕ) : Type 0 where
  pub ends : end ≡ at + length text
  pub holds : new ≡ splice old at text

-- What a writer answers that may be refused: the text's length, and it stands in the buffer; or that there is no room
-- for so many bytes, exactly when it would pass the buffer's end, and the buffer is as it was.
abbrev pub Written : List ℕ → List ℕ → List ℕ → ℕ → Result ℕ Refusal → Type 0
Written text old new at (Ok n) = (n ≡ length text) × (at + length text ≤ length old) × (new ≡ splice old at text)
Written text old new at (Err refusal) = (refusal ≡ NoRoom (length text)) × (length old < at + length text) × (new ≡ old)

-- What is read out of bytes.
use Rattle.std.specs.Prelude.{◌≡◌, ℕ, ◌<◌, cond, List, [], ◌∷◌, ◌++◌, length, decimal, ◌==◌, ◌≢◌, slice_index, slice_index_or}

-- The bytes are the digits of v, a number below 65,536.
abbrev pub Spells : List ℕ → ℕ → Type 0
Spells bytes v = (v < 65536) × (bytes ≡ decimal v)

-- The bytes are the digits of no such number.
abbrev pub NotNumber : List ℕ → Type 0
NotNumber bytes = (v : ℕ) → Spells bytes v → ⊥

-- The bytes do not end in byte 10.
abbrev pub NotEnded : List ℕ → Type 0
NotEnded bytes = (line : List ℕ) → bytes ≢ line ++ (10 ∷ [])

-- No byte of a line is b.
abbrev pub Lacks : ℕ → List ℕ → Type 0
Lacks b line = (k : ℕ) → k < length line → slice_index line k ≢ b

-- The first b of a line stands at place i.
pub record FirstAt (b : ℕ) (line : List ℕ) (i : ℕ) : Type 0 where
  pub within : i < length line
  pub here : slice_index_or line i 0 ≡ b
  pub first : (k : ℕ) → k < i → slice_index line k ≢ b

-- A byte put before the first of some texts.
unfoldable pub put_before : ℕ → List (List ℕ) → List (List ℕ)
put_before b [] = (b ∷ []) ∷ []
put_before b (text ∷ texts) = (b ∷ text) ∷ texts

-- The fields of a line whose last byte 10 is taken off: what lies between its commas. There is at least one.
unfoldable pub fields : List ℕ → List (List ℕ)
fields [] = [] ∷ []
fields (b ∷ line) = cond (b == 44) ([] ∷ fields line) (put_before b (fields line))

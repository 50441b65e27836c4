-- What takes texts.
use Rattle.std.specs.Prelude.{ℕ, ◌+◌, ◌≤◌, List, [], ◌++◌, length}

-- The laws of what takes texts, with room for so many bytes.
pub record SinkLaws {S : Type 0} (HasRoom : S → ℕ → Type 0) (Took : S → List ℕ → S → Type 0) : Type 0 where
  -- no text changes nothing
  pub none : (s : S) → HasRoom s 0 → Took s [] s
  -- one text after another is the two as one
  pub then : (s t u : S) (a b : List ℕ) → Took s a t → Took t b u → Took s (a ++ b) u
  -- room for more is room for less
  pub less : (s : S) (m n : ℕ) → HasRoom s m → n ≤ m → HasRoom s n
  -- what a text leaves of the room
  pub rest : (s t : S) (a : List ℕ) (m n : ℕ) → Took s a t → HasRoom s m → length a + n ≤ m → HasRoom t n

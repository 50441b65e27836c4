-- The fields of a line of a word and two numbers.
use Rattle.std.proofs.Common.{◌≡◌, ℕ, List, [], ◌∷◌, get_or, drop, decimal, refl}
use Rattle.files.specs.Reading.{Spells}
use Rattle.files.proofs.Spelled.{not_empty}

-- a word, two numbers and nothing more
pub pair_texts : (texts : List (List ℕ)) (i j : ℕ) → Spells (get_or (drop 1 texts) 0 []) i → Spells (get_or (drop 1 (drop 1 texts)) 0 []) j
    → drop 1 (drop 1 (drop 1 texts)) ≡ [] → (word : List ℕ) × (texts ≡ word ∷ decimal i ∷ decimal j ∷ [])
pair_texts [] i j s t e = absurd (not_empty [] refl i s)
pair_texts (word ∷ []) i j s t e = absurd (not_empty [] refl i s)
pair_texts (word ∷ x ∷ []) i j s t e = absurd (not_empty [] refl j t)
pair_texts (word ∷ x ∷ y ∷ rest) i j s t e = (word, cc (s.1, t.1))

-- Lines of fields.
use Rattle.std.specs.Prelude.{ℕ, List, [], ◌∷◌, ◌++◌}
use Rattle.std.specs.List.{flat_map}

-- Texts, each after a comma.
abbrev pub after_commas : List (List ℕ) → List ℕ
after_commas texts = flat_map (λ text. 44 ∷ text) texts

-- Texts, parted by commas.
abbrev pub parted : List (List ℕ) → List ℕ
parted [] = []
parted (text ∷ texts) = text ++ after_commas texts

-- A line: its fields, parted by commas and ended by byte 10.
unfoldable pub line : List (List ℕ) → List ℕ
line texts = parted texts ++ (10 ∷ [])

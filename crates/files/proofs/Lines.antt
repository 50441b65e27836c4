-- The fields of a line, up to one of them.
use Rattle.std.proofs.Common.{◌≡◌, ℕ, ◌+◌, ◌<◌, ◌≤◌, List, [], ◌∷◌, ◌++◌, length, get_or, take, sym, ap, arith}
use Rattle.std.specs.List.{flat_map}
use Rattle.std.proofs.lemmas.List.{length-append, take_more, flat_map_more}
use Rattle.std.proofs.lemmas.List.Folds.{flat_map-map, length-flat_map-take}
use Rattle.files.specs.declared.line.Field.{Field}
use Rattle.files.specs.Field.{field_text, line_of}
use Rattle.files.specs.Line.{line}

-- A word, and fields, each after a comma.
abbrev pub begun : List ℕ → List Field → List ℕ
begun word fields = word ++ flat_map (λ d. 44 ∷ field_text d) fields

-- a line is that and byte 10
pub line_begun : (word : List ℕ) (fields : List Field) → line_of word fields ≡ begun word fields ++ (10 ∷ [])
unfolding line
line_begun word fields = ap (λ (x : List ℕ). (word ++ x) ++ (10 ∷ [])) (flat_map-map (λ (text : List ℕ). 44 ∷ text) field_text fields)

-- one more field
pub begun_more : (word : List ℕ) (fields : List Field) (k : ℕ) (d : Field) → k < length fields
    → begun word (take (k + 1) fields) ≡ begun word (take k fields) ++ (44 ∷ field_text (get_or fields k d))
begun_more word fields k d h = rw (take_more fields k d h) (sym (flat_map_more (λ d. 44 ∷ field_text d) word (take k fields) (get_or fields k d)))

-- a line up to one of its fields, with it, is no longer than the line
pub begun_within : (word : List ℕ) (fields : List Field) (k : ℕ) (d : Field) → k < length fields
    → length (begun word (take k fields)) + length (44 ∷ field_text (get_or fields k d)) ≤ length (line_of word fields)
begun_within word fields k d h =
    rw (line_begun word fields) (simp length-append (omega (arith, length-flat_map-take (λ d. 44 ∷ field_text d) fields k d h)))

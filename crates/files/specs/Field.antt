-- What the code writes as a field.
use Rattle.std.specs.Prelude.{ℕ, List, [], ◌∷◌, map, decimal}
use Rattle.files.specs.declared.line.Field.{Field}
use Rattle.files.specs.declared.line.Field.TheVariants.{Number, Span, Letter}
use Rattle.files.specs.Forms.{span_text}
use Rattle.files.specs.Line.{line}

-- The text of a field.
abbrev pub field_text : Field → List ℕ
field_text (Number n) = decimal n
field_text (Span span) = span_text span
field_text (Letter byte) = byte ∷ []

-- The line of a word and the fields after it.
abbrev pub line_of : List ℕ → List Field → List ℕ
line_of word fields = line (word ∷ map field_text fields)

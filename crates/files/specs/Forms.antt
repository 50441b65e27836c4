-- How a span and a standing are written. A number is written as `decimal` says.
use Rattle.std.specs.Prelude.{ℕ, Bool, true, false, List, codes, decimal}

-- A span is written as a number.
abbrev pub span_text : ℕ → List ℕ
span_text span = decimal span

-- The mark of a baseline: D if it is doubtful, and C if it is certain.
abbrev pub mark_text : Bool → List ℕ
mark_text true = codes "D"
mark_text false = codes "C"

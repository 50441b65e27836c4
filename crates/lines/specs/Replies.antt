-- What is replied to a line.
use Rattle.std.specs.Prelude.{ℕ, List, [], ◌∷◌, map, Ok, Err, codes, decimal, Result}
use Rattle.files.specs.Line.{line}
use Rattle.lines.specs.declared.fault.Fault.{Fault}
use Rattle.lines.specs.Faults.{number_of, detail_of, layer_of}

-- ok and the answers
abbrev pub ok_line : List ℕ → List ℕ
ok_line answers = line (codes "ok" ∷ map decimal answers)

-- no,line,number,detail,layer
abbrev pub no_line : ℕ → Fault → List ℕ
no_line number fault =
    line (codes "no" ∷ decimal number ∷ decimal (number_of fault) ∷ decimal (detail_of fault) ∷ (layer_of fault ∷ []) ∷ [])

-- The reply to the line of this number: what was answered, or why it is refused.
abbrev pub reply_text : ℕ → Result (List ℕ) Fault → List ℕ
reply_text number (Ok text) = text
reply_text number (Err fault) = no_line number fault

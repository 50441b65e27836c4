-- A field is handed out.
use Rattle.std.proofs.Common.{◌≡◌, ℕ, List, drop, None, Some, Option, sym, ap, ◌∙◌}
use Rattle.std.specs.Borrow.{Bor}
use Rattle.std.specs.Iterator.{YieldsFirstRef}
use Rattle.files.specs.declared.fields.Fields.{Fields}
use Rattle.files.specs.Fields.{left_of}

-- the others are left
pub others_left : (x : Fields) (r : Option (Bor (List ℕ))) (y : Fields) → YieldsFirstRef left_of x r y → left_of y ≡ drop 1 (left_of x)
others_left x None y h = h.1 ∙ sym (ap (λ (l : List (List ℕ)). drop 1 l) h.0)
others_left x (Some f) y h = sym (ap (λ (l : List (List ℕ)). drop 1 l) h)

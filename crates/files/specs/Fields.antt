-- The fields that are still to be handed out.
use Rattle.std.specs.Prelude.{ℕ, List, [], Some, None, Option}
use Rattle.std.specs.Borrow.{Bor}
use Rattle.files.specs.declared.fields.Fields.{Fields}
use Rattle.files.specs.Reading.{fields}

-- Those of what follows a comma, if one was met.
abbrev pub fields_in : Option (Bor (List ℕ)) → List (List ℕ)
fields_in None = []
fields_in (Some rest) = fields rest.now

-- Those that `Fields` has still to hand out.
abbrev pub left_of : Fields → List (List ℕ)
left_of reader = fields_in reader.rest

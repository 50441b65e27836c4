use Rattle.files.proofs.Joins.{fields_parted, parted_fields}
use Rattle.files.proofs.theorems.lines_read_back.Goals as goal

pub returns : goal.returns
returns c = record { fields_parted = fields_parted; parted_fields = parted_fields }

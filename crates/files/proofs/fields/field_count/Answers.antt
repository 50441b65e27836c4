use Rattle.std.proofs.Common.{rules}
use Rattle.std.proofs.iter.runs.Made.{chains}
use Rattle.files.proofs.Cuts.{length_fields}
use Rattle.files.proofs.fields.field_count.Goals as goal

pub returns : goal.returns
returns c = let l = length_fields c.args.line.now in search (rules, chains)

use Rattle.layout.proofs.Tells.{row_told}
use Rattle.layout.proofs.rows.Rows.row.Goals as goal

pub returns : goal.returns
returns c = row_told c.args.self.now c.args.i

use Rattle.lines.proofs.SheetCuts.{end_met, end_missed}
use Rattle.lines.proofs.sheet.line_end.Goals as goal

pub returns-in-Some : goal.returns-in-Some
returns-in-Some c = end_met c.args.bytes.now c.args.at c.min.result c.in-Some.before c.min.ensures c.in-Some.ensures

pub returns-in-None : goal.returns-in-None
returns-in-None c = end_missed c.args.bytes.now c.args.at c.min.result c.min.ensures c.in-None.ensures

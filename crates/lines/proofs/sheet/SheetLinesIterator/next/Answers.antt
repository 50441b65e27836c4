use Rattle.std.proofs.Common.{◌≡◌, ◌<◌, length, rules}
use Rattle.lines.proofs.SheetCuts.{lines_at, lines_none}
use Rattle.lines.proofs.sheet.SheetLinesIterator.next.Goals as goal

pub returns-then-is_empty-clause-steps : goal.returns-then-is_empty-clause-steps
returns-then-is_empty-clause-steps c =
    let none : length c.args.self.now.rest.now ≡ 0 = search rules in
    (lines_none _ none, lines_none _ none)

pub returns-clause-steps : goal.returns-clause-steps
returns-clause-steps c =
    let some : 0 < length c.args.self.now.rest.now = search rules in
    rw (c.split_at.ensures.front, c.split_at.ensures.back) (lines_at c.args.self.now.rest.now c.line_end.result some c.line_end.ensures)

pub returns-clause-goes : goal.returns-clause-goes
returns-clause-goes c =
    let some : 0 < length c.args.self.now.rest.now = search rules in
    let cut = lines_at c.args.self.now.rest.now c.line_end.result some c.line_end.ensures in
    let front = c.split_at.ensures.front in
    let back = c.split_at.ensures.back in search rules

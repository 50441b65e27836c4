use Rattle.std.proofs.Common.{sym, arith}
use Rattle.std.proofs.lemmas.Nat.{mul-le}
use Rattle.host.proofs.Places.{column_below}
use Rattle.host.proofs.square_form.FullSquare.wrong_in_row.Goals as goal

pub overflow_mul-result : goal.overflow_mul-result
overflow_mul-result c =
    let s = c.args.self.now in
    omega (arith, mul-le c.args.i s.n 64 64 (omega (arith, c.requires, s.few)) s.few)

pub overflow_add-result : goal.overflow_add-result
overflow_add-result c =
    let s = c.args.self.now in
    omega (arith, mul-le c.args.i s.n 64 64 (omega (arith, c.requires, s.few)) s.few, column_below s.n s.bytes.now _ _ (sym c.in_ok-j.ensures), s.few)

use Rattle.std.proofs.Common.{rules}
use Rattle.host.specs.Square.{wrong_in_row}
use Rattle.host.proofs.Places.{first_found}
use Rattle.host.proofs.Rows.{found_row}
use Rattle.host.proofs.square_form.FullSquare.first_wrong.Goals as goal

pub returns : goal.returns
returns c =
    let s = c.args.self.now in
    first_found s.n s.bytes.now _
    (found_row (wrong_in_row s.n s.bytes.now) s.n _ _ c.find_map.ensures.runs (λ a r q called. search rules) (λ x o called. search rules))

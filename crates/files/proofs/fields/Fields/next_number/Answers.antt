use Rattle.std.proofs.Common.{[], refl}
use Rattle.files.proofs.Handed.{others_left}
use Rattle.files.proofs.Spelled.{not_empty}
use Rattle.files.proofs.fields.Fields.next_number.Goals as goal

pub returns-in_err-next : goal.returns-in_err-next
returns-in_err-next c =
    let over = c.in_err-next.ensures.steps.0 in
    record { number = rw (c.from_residual.ensures, over) (not_empty [] refl); left = others_left _ _ _ c.next.ensures.steps }

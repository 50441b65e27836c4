use Rattle.std.proofs.Common.{[], Ok, Err, refl}
use Rattle.std.proofs.lemmas.Result.{err_from_is_err_and}
use Rattle.lines.specs.Served.{carried}
use Rattle.lines.proofs.Carried.{carried_ok, carried_no}
use Rattle.lines.proofs.serve.answer.Goals as goal

pub returns : goal.returns
returns g c =
    let made = c.in_ok-serve.ensures in (
      made.0,
      carried made.1,
      (Ok _, c.in_ok-request.ensures, (made.1, made.2, refl)),
      carried_ok made.1 _ _ _ made.3,
      made.4,
    )

pub returns-in_err-serve : goal.returns-in_err-serve
returns-in_err-serve g c =
    let p = err_from_is_err_and c.from_residual-in_err-serve.result c.from_residual-in_err-serve.ensures.1 in
    let made = c.in_err-serve.ensures in
    rw (p.1, p.2) (
      made.0,
      carried made.1,
      (Ok _, c.in_ok-request.ensures, (made.1, made.2, refl)),
      carried_no made.1 _ _ _ made.3,
      made.4,
    )

pub returns-in_err-request : goal.returns-in_err-request
returns-in_err-request g c =
    let p = err_from_is_err_and c.from_residual.result c.from_residual.ensures.1 in
    rw (p.1, p.2) ([], Err _, (Err _, c.in_err-request.ensures, (refl, refl, refl)), (refl, refl), λ start h run. run)

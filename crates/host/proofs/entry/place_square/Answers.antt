use Rattle.std.proofs.Common.{sym, refl, inl, inr}
use Rattle.std.proofs.lemmas.Result.{err_from_is_err_and}
use Rattle.host.proofs.Forms.{form_by_bytes, form_small, clash_small}
use Rattle.host.proofs.entry.place_square.Goals as goal

pub returns-in_err-full : goal.returns-in_err-full
returns-in_err-full c =
    let p = err_from_is_err_and c.from_residual.result c.from_residual.ensures.1 in
    let form = c.in_err-full.ensures in
    rw (p.1, p.2) (record { entered = (inl form, refl); small = form_small c.args.n c.args.square.now _ form })

pub returns-in-Some : goal.returns-in-Some
returns-in-Some c =
    let form = form_by_bytes c.args.n c.args.square.now c.in_ok-full.full _ c.in_ok-full.ensures (sym c.in-Some.ensures) in
    record { entered = (inl form, refl); small = form_small c.args.n c.args.square.now _ form }

pub returns-in_err-imagers : goal.returns-in_err-imagers
returns-in_err-imagers c =
    let p = err_from_is_err_and c.from_residual-in_err-imagers.result c.from_residual-in_err-imagers.ensures.1 in
    let clash = c.in_err-imagers.ensures.placed in
    let right = form_by_bytes c.args.n c.args.square.now c.in_ok-full.full _ c.in_ok-full.ensures (sym c.in_default.ensures) in
    rw (p.1, p.2) (record {
      entered = (inr (right, inl (clash.0, clash.1, clash.2)), refl);
      small = clash_small c.args.n c.args.square.now _ clash.0 clash.1 clash.2;
    })

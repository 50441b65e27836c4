use Rattle.std.proofs.Common.{Ok, Err, refl, ◌∙◌}
use Rattle.std.proofs.lemmas.Result.{err_from_is_err_and}
use Rattle.survey.specs.Runs.{step}
use Rattle.lines.proofs.Told.{put_text, flag_number}
use Rattle.lines.proofs.serve.serve.Goals as goal

pub returns-in_ok-baseline-in-Enlist : goal.returns-in_ok-baseline-in-Enlist
returns-in_ok-baseline-in-Enlist g c =
    let made = c.in_ok-baseline-in-Enlist.ensures in
    rw c.in-Enlist.is (_, Ok _, (Ok _, refl, made, refl), put_text c.put_ok.ensures, λ start h run. step _ _ run made)

pub returns-in_err-baseline-in-Enlist : goal.returns-in_err-baseline-in-Enlist
returns-in_err-baseline-in-Enlist g c =
    let p = err_from_is_err_and c.from_residual.result c.from_residual.ensures.1 in
    let made = c.in_err-baseline-in-Enlist.ensures in
    rw (c.in-Enlist.is, p.1, p.2) (_, Err _, (Err _, refl, made, refl), (refl, refl), λ start h run. step _ _ run made)

pub returns-in_ok-changed-in-Share : goal.returns-in_ok-changed-in-Share
returns-in_ok-changed-in-Share g c =
    let made = rw (c.from.ensures, c.from-in-Share.ensures) at c.in_ok-changed-in-Share.ensures in
    let put = rw (c.from-in-Share-2.ensures ∙ flag_number _) at c.put_ok-in-Share.ensures in
    rw c.in-Share.is (_, Ok _, (Ok _, refl, made, refl), put_text put, λ start h run. step _ _ run made)

pub returns-in_err-changed-in-Share : goal.returns-in_err-changed-in-Share
returns-in_err-changed-in-Share g c =
    let p = err_from_is_err_and c.from_residual-in_err-changed-in-Share.result c.from_residual-in_err-changed-in-Share.ensures.1 in
    let made = rw (c.from.ensures, c.from-in-Share.ensures) at c.in_err-changed-in-Share.ensures in
    rw (c.in-Share.is, p.1, p.2) (_, Err _, (Err _, refl, made, refl), (refl, refl), λ start h run. step _ _ run made)

pub returns-in_ok-changed-in-Part : goal.returns-in_ok-changed-in-Part
returns-in_ok-changed-in-Part g c =
    let made = rw (c.from-in-Part.ensures, c.from-in-Part-2.ensures) at c.in_ok-changed-in-Part.ensures in
    let put = rw (c.from-in-Part-3.ensures ∙ flag_number _) at c.put_ok-in-Part.ensures in
    rw c.in-Part.is (_, Ok _, (Ok _, refl, made, refl), put_text put, λ start h run. step _ _ run made)

pub returns-in_err-changed-in-Part : goal.returns-in_err-changed-in-Part
returns-in_err-changed-in-Part g c =
    let p = err_from_is_err_and c.from_residual-in_err-changed-in-Part.result c.from_residual-in_err-changed-in-Part.ensures.1 in
    let made = rw (c.from-in-Part.ensures, c.from-in-Part-2.ensures) at c.in_err-changed-in-Part.ensures in
    rw (c.in-Part.is, p.1, p.2) (_, Err _, (Err _, refl, made, refl), (refl, refl), λ start h run. step _ _ run made)

pub returns-in_ok-found-in-Resolve : goal.returns-in_ok-found-in-Resolve
returns-in_ok-found-in-Resolve g c =
    let made = c.in_ok-found-in-Resolve.ensures in
    rw c.in-Resolve.is (_, Ok _, (Ok _, refl, made.made, refl), put_text c.put_ok-in-Resolve.ensures, λ start h run. step _ _ run made.made)

pub returns-in_err-found-in-Resolve : goal.returns-in_err-found-in-Resolve
returns-in_err-found-in-Resolve g c =
    let p = err_from_is_err_and c.from_residual-in_err-found-in-Resolve.result c.from_residual-in_err-found-in-Resolve.ensures.1 in
    let made = c.in_err-found-in-Resolve.ensures in
    rw (c.in-Resolve.is, p.1, p.2) (_, Err _, (Err _, refl, made.made, refl), (refl, refl), λ start h run. step _ _ run made.made)

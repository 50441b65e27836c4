use Rattle.std.proofs.Common.{Ok, Err, refl, subst, arith}
use Rattle.std.proofs.lemmas.Result.{err_from_is_err_and}
use Rattle.survey.specs.Views.{view}
use Rattle.survey.specs.Issues.{ProfileWritten, TableWritten}
use Rattle.survey.specs.Runs.{step}
use Rattle.lines.proofs.Issued.{issued}
use Rattle.lines.proofs.Told.{put_text}
use Rattle.lines.proofs.issue.issue.Goals as goal

pub returns-in_err-opening : goal.returns-in_err-opening
returns-in_err-opening g c =
    let p = err_from_is_err_and c.from_residual.result c.from_residual.ensures.1 in
    let begun = c.in_err-opening.ensures in
    rw (p.1, p.2) (_, Err _, (refl, begun.made), (refl, refl), λ start h run. step _ _ run begun.made)

pub returns : goal.returns
returns g c =
    let begun = c.in_ok-opening.ensures in
    let view_of = view g.L.Evidence g.L.Ledger in
    let profile = subst
    (λ r. ProfileWritten (view_of c.begin.new.self) c.in_ok-opening.opening 0 c.args.reply.now c.profile.new.buffer r (view_of c.profile.new.self))
    c.unwrap-profile.ensures
    c.profile.ensures in
    let (closing, place) = c.unwrap-profile.result in
    let table = subst
    (λ r. TableWritten (view_of c.profile.new.self) closing place c.profile.new.buffer c.table.new.buffer r (view_of c.table.new.self))
    c.unwrap-table.ensures
    c.table.ensures in
    let left = issued (view_of c.args.survey.now) (view_of c.begin.new.self) (view_of c.profile.new.self) (view_of c.table.new.self)
    _ _ _ _ c.args.reply.now _ _ begun.made profile table begun.room (omega arith) in (
      _,
      Ok _,
      (_, _, _, _, _, _, _, refl, begun.made.0, left.after, refl),
      put_text left.files,
      λ start h run. step {s = c.profile.new.self} _ _ (step {s = c.begin.new.self} _ _ (step _ _ run begun.made) profile) table,
    )

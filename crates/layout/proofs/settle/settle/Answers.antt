use Rattle.std.proofs.Common.{refl, ◌∙◌}
use Rattle.std.proofs.lemmas.Bool.{cond-true, cond-false, false_from_ne_true}
use Rattle.theory.specs.Search.{Settled}
use Rattle.layout.specs.Order.{left}
use Rattle.layout.specs.Tables.{bits_at}
use Rattle.layout.specs.Told.{told}
use Rattle.layout.proofs.Preferred.{all_starts, passing_kept, found_some}
use Rattle.layout.proofs.Steps.{walked_reach}
use Rattle.layout.proofs.AllSettled.{settled_alike}
use Rattle.layout.proofs.settle.settle.Goals as goal

pub find-requires : goal.find-requires
find-requires c = record { rows = refl; starts = all_starts (told c.args.walk.now.rows.now) c.args.walk.now.root c.between.result c.between.ensures }

pub returns-then-not-find : goal.returns-then-not-find
returns-then-not-find c = record {
  rows = refl;
  settled = passing_kept (told c.args.walk.now.rows.now) c.args.walk.now.root c.between.result c.between.ensures ∙ c.if-not-find.ensures.found;
  kept = λ v out. refl;
}

pub returns-clause-settled : goal.returns-clause-settled
returns-clause-settled c =
    let w = c.args.walk.now in
    let t = told w.rows.now in
    let r = w.root in
    let found = c.if-not-find.ensures.found in
    let tried = bits_at c.find.new.near.near in
    let reaches = walked_reach t w.rows.now.sound r w.met.bits w.steps.items w.walked in
    let settled : Settled t r tried c.find-2.result = record {
      start = found.0;
      others = left t r c.find.new.starts;
      preferred = passing_kept t r c.between.result c.between.ensures ∙ found.1;
      stars = found.2.stars;
      begins = found.2.first;
      doubt = found_some t r c.find.new.starts c.find-2.new.starts (bits_at c.find-2.new.near.near) c.find-2.result c.find-2.ensures.found;
    } in
    settled_alike t r tried (bits_at c.take_over.new.self.near)
    (λ v reach. c.take_over.ensures.near v ∙ cond-true _ _ _ ((reaches v).1 reach)) settled

pub returns-clause-kept : goal.returns-clause-kept
returns-clause-kept c v out =
    let w = c.args.walk.now in
    let reaches = walked_reach (told w.rows.now) w.rows.now.sound w.root w.met.bits w.steps.items w.walked in
    c.take_over.ensures.near v ∙ cond-false _ _ _ (false_from_ne_true _ (λ h. out ((reaches v).0 h)))

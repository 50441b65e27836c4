use Rattle.std.proofs.Common.{ℕ, Option, length, All, filter, sym, ap, ◌∙◌, subst, arith}
use Rattle.std.proofs.lemmas.Bool.{cond-true, cond-false}
use Rattle.std.proofs.lemmas.List.Elements.{All-head, All-tail}
use Rattle.theory.specs.Search.{Start, passes}
use Rattle.layout.specs.Told.{told}
use Rattle.layout.proofs.settle.find.Goals as goal

pub attempt-requires : goal.attempt-requires
attempt-requires c =
    let P : Option ℕ → Type 0 = Start (told c.args.walk.now.rows.now) c.args.walk.now.root in
    record {
      rows = c.requires.rows ∙ sym c.loop-cross.invariant.0;
      start = All-head P c.in-Some.cross _ (subst (All P) c.in-Some.ensures.steps c.loop-cross.invariant.1);
    }

pub returns-then-attempt : goal.returns-then-attempt
returns-then-attempt c =
    let t = told c.args.walk.now.rows.now in
    let r = c.args.walk.now.root in
    let was = c.loop-cross.invariant in
    let steps = c.in-Some.ensures.steps in
    record {
      rows = c.attempt.ensures.rows ∙ was.0;
      starts = All-tail (Start t r) c.in-Some.cross _ (subst (All (Start t r)) steps was.1);
      found = (
        c.in-Some.cross,
        was.2 ∙ ap (filter (passes t r)) steps ∙ cond-true _ _ _ (sym c.attempt.ensures.passes ∙ c.if-attempt.true),
        c.attempt.ensures.stars c.if-attempt.true,
      );
      kept = λ v out. c.attempt.ensures.kept v out ∙ was.3 v out;
    }

pub loop-cross-preserved : goal.loop-cross-preserved
loop-cross-preserved c =
    let t = told c.args.walk.now.rows.now in
    let r = c.args.walk.now.root in
    let was = c.loop-cross.invariant in
    let steps = c.in-Some.ensures.steps in (
      c.attempt.ensures.rows ∙ was.0,
      All-tail (Start t r) c.in-Some.cross _ (subst (All (Start t r)) steps was.1),
      was.2 ∙ ap (filter (passes t r)) steps ∙ cond-false _ _ _ (sym c.attempt.ensures.passes ∙ c.if-attempt.false),
      λ v out. c.attempt.ensures.kept v out ∙ was.3 v out,
    )

pub loop-cross-smaller : goal.loop-cross-smaller
loop-cross-smaller c = omega (arith, ap length c.in-Some.ensures.steps)

pub returns : goal.returns
returns c =
    let t = told c.args.walk.now.rows.now in
    let r = c.args.walk.now.root in
    let was = c.loop-cross.invariant in
    let none = c.in_default.ensures.steps in
    record {
      rows = was.0;
      starts = subst (All (Start t r)) (none.0 ∙ sym none.1) was.1;
      found = was.2 ∙ ap (filter (passes t r)) none.0;
      kept = was.3;
    }

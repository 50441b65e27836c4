use Rattle.std.proofs.Common.{◌≡◌, ◌+◌, sym, refl, ◌∙◌, subst}
use Rattle.layout.specs.declared.clusters.Clusters.{Clusters}
use Rattle.layout.specs.declared.rows.Rows.{Rows}
use Rattle.layout.specs.Answered.{Settling}
use Rattle.layout.specs.Told.{told}
use Rattle.layout.proofs.AllSettled.{settling_none, settling_skip, settling_all}
use Rattle.layout.proofs.clusters.settle_all.Goals as goal
use Rattle.layout.proofs.clusters.settle_all.Goals.{then-not-has+in_ok-add, else-not-has}

pub loop-r-init : goal.loop-r-init
loop-r-init c = (refl, settling_none (told c.args.rows.now) _ c.empty-2.ensures c.empty-3.ensures)

pub loop-r-preserved : goal.loop-r-preserved
loop-r-preserved c =
    let x = c.args.rows.now in
    let r = c.loop-r.r in
    let was = c.loop-r.invariant in
    let P : Clusters → Type 0 = λ f. (f.near.rows.now ≡ x) × Settling (told x) f (r + 1) in
    elim c.if-not-has.branch [
      | then-not-has+in_ok-add w ↦ subst P (sym w.found-is)
          (w.add.ensures.rows ∙ was.0, subst (λ (x : Rows). Settling (told x) w.add.new.self (r + 1)) was.0 w.in_ok-add.ensures.added)
      | else-not-has w ↦ subst P (sym w.found-is)
          (was.0, settling_skip (told x) x.sound c.loop-r.found r c.loop-r-test.true (sym c.has.ensures ∙ w.if-not-has.false) was.1)
    ]

pub returns-clause-answered : goal.returns-clause-answered
returns-clause-answered c = settling_all (told c.args.rows.now) c.args.rows.now.sound c.loop-r.found c.loop-r.r c.loop-r-test.false c.loop-r.invariant.1

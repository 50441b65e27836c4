use Rattle.std.proofs.Common.{◌≡◌, ◌<◌, ◌&&◌, ltb, sym, ap, ◌∙◌, arith, rules}
use Rattle.bitset.specs.Sets.{has}
use Rattle.layout.proofs.Loaded.{none_asked, shared, not_shared, all_asked}
use Rattle.layout.proofs.load.load_row.Goals as goal
use Rattle.layout.proofs.load.load_row.Goals.{then-shares, else-shares}

pub loop-j-init : goal.loop-j-init
loop-j-init g c = (
  search rules,
  none_asked ((g.E.Evidence.meaning c.args.evidence.now).shares c.args.i) c.empty-row.result.bits c.empty-row.ensures,
)

pub loop-j-preserved : goal.loop-j-preserved
loop-j-preserved g c =
    let f = (g.E.Evidence.meaning c.args.evidence.now).shares c.args.i in
    let few = (g.met.E.Evidence.sound c.args.evidence.now).few in
    let l : c.loop-j.j < 64 = omega (arith, few, c.loop-j-test.true, c.count-j-end.ensures) in
    elim c.if-shares.branch [
      | then-shares w ↦ (
        search rules,
        shared f c.loop-j.row.bits c.if-shares.row.bits c.loop-j.j l c.loop-j.invariant.1
            (sym c.shares.ensures ∙ w.if-shares.true)
            (λ k. ap (λ x. has x.bits k) w.row-is ∙ w.with-row.ensures.members k),
      )
      | else-shares w ↦ (
        search rules,
        λ k. ap (λ x. has x.bits k) w.row-is
            ∙ not_shared f c.loop-j.row.bits c.loop-j.j c.loop-j.invariant.1 (sym c.shares.ensures ∙ w.if-shares.false) k,
      )
    ]

pub returns : goal.returns
returns g c =
    let t = g.E.Evidence.meaning c.args.evidence.now in
    let e : c.loop-j.j ≡ t.count = omega (arith, c.count-j-end.ensures) in
    all_asked t (g.met.E.Evidence.sound c.args.evidence.now) c.args.i c.loop-j.row.bits c.loop-j.invariant.0
    (λ k. c.loop-j.invariant.1 k ∙ ap (λ n. ltb k n && t.shares c.args.i k) e)

use Rattle.std.proofs.Common.{set, refl, ◌∙◌, arith, length-set, rules}
use Rattle.layout.specs.Told.{told}
use Rattle.layout.proofs.Spreads.{step_below, spreading_none, spreading_more, spread_cluster, spread_kept}
use Rattle.layout.proofs.near.NearStars.spread.Goals as goal

pub loop-from-init : goal.loop-from-init
loop-from-init c =
    let w = c.args.walk.now in
    (refl, spreading_none (told w.rows.now) c.as_slice-from-items.result.now (set c.args.self.now.near w.root c.args.first) (length-set c.args.self.now.near w.root c.args.first ∙ (search rules)))

pub offset_bounds-self-from : goal.offset_bounds-self-from
offset_bounds-self-from c = let b = step_below c.args.walk.now c.as_slice-from-items.result.now c.as_slice-from-items.ensures.value c.loop-from.from-index c.loop-from-test.true in search rules

pub bounds-self-from : goal.bounds-self-from
bounds-self-from c = (step_below c.args.walk.now c.as_slice-from-items.result.now c.as_slice-from-items.ensures.value c.loop-from.from-index c.loop-from-test.true).0

pub handed-requires : goal.handed-requires
handed-requires c = (step_below c.args.walk.now c.as_slice-from-items.result.now c.as_slice-from-items.ensures.value c.loop-from.from-index c.loop-from-test.true).0

pub offset_bounds-self-to : goal.offset_bounds-self-to
offset_bounds-self-to c = let b = step_below c.args.walk.now c.as_slice-from-items.result.now c.as_slice-from-items.ensures.value c.loop-from.from-index c.loop-from-test.true in search rules

pub bounds-self-to : goal.bounds-self-to
bounds-self-to c = (step_below c.args.walk.now c.as_slice-from-items.result.now c.as_slice-from-items.ensures.value c.loop-from.from-index c.loop-from-test.true).1

pub loop-from-preserved : goal.loop-from-preserved
loop-from-preserved c =
    let w = c.args.walk.now in
    let taken = c.as_slice-from-items.result.now in (
      c.loop-from.invariant.0,
      spreading_more (told w.rows.now) taken (set c.args.self.now.near w.root c.args.first) c.loop-from.self.near c.loop-from.from-index
          c.handed.result c.loop-from-test.true c.loop-from.invariant.1
          (step_below w taken c.as_slice-from-items.ensures.value c.loop-from.from-index c.loop-from-test.true).1 c.handed.ensures,
    )

pub returns-clause-handed : goal.returns-clause-handed
returns-clause-handed c =
    spread_cluster c.args.walk.now c.args.first c.as_slice-from-items.result.now c.args.self.now.near c.loop-from.self.near c.loop-from.from-index
    c.as_slice-from-items.ensures.value (search rules) (omega arith) c.loop-from.invariant.1

pub returns-clause-kept : goal.returns-clause-kept
returns-clause-kept c =
    spread_kept c.args.walk.now c.args.first c.as_slice-from-items.result.now c.args.self.now.near c.loop-from.self.near c.loop-from.from-index
    c.as_slice-from-items.ensures.value (search rules) (omega arith) c.loop-from.invariant.1

use Rattle.std.proofs.Common.{arith}
use Rattle.layout.proofs.Loaded.{loaded_none, loaded_more, loaded_told, loaded_kept}
use Rattle.layout.proofs.load.load.Goals as goal

pub loop-i-init : goal.loop-i-init
loop-i-init g c = loaded_none (g.E.Evidence.meaning c.args.evidence.now) c.empty-rows.result c.empty-rows.ensures

pub loop-i-preserved : goal.loop-i-preserved
loop-i-preserved g c =
    let few = (g.met.E.Evidence.sound c.args.evidence.now).few in
    loaded_more (g.E.Evidence.meaning c.args.evidence.now) c.loop-i.rows c.loop-i.i c.load_row.result
    (omega (arith, c.count-count.ensures)) c.load_row.ensures c.loop-i.invariant

pub invariant_of-result : goal.invariant_of-result
invariant_of-result g c =
    loaded_kept (g.E.Evidence.meaning c.args.evidence.now) (g.met.E.Evidence.sound c.args.evidence.now)
    c.count-count.result c.loop-i.rows c.count-count.ensures c.loop-i.i c.loop-i-test.false c.loop-i.invariant

pub returns : goal.returns
returns g c =
    loaded_told (g.E.Evidence.meaning c.args.evidence.now) (g.met.E.Evidence.sound c.args.evidence.now)
    c.count-count.result c.loop-i.rows c.count-count.ensures c.loop-i.i c.loop-i-test.false c.loop-i.invariant

use Rattle.std.proofs.Common.{length, ap, arith}
use Rattle.bitset.specs.Sets.{members}
use Rattle.layout.proofs.Steps.{steps_count}
use Rattle.layout.proofs.walk.step_to.Goals as goal

pub push-requires : goal.push-requires
push-requires c =
    let e = steps_count c.args.u c.loop-v.steps.items c.args.steps.now.items (members c.loop-v.v-iterator.left.bits) (members c.args.new.bits) c.loop-v.invariant.2 in
    let n = ap length c.in-Some.ensures.steps in
    (omega arith, omega (arith, c.requires))

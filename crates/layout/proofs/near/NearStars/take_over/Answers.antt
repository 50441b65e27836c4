use Rattle.std.proofs.Common.{refl, rules}
use Rattle.bitset.proofs.Rising.{member_front}
use Rattle.layout.proofs.Taking.{taking_more, taking_all}
use Rattle.layout.proofs.near.NearStars.take_over.Goals as goal

pub offset_bounds-other-v : goal.offset_bounds-other-v
offset_bounds-other-v c = let b = (member_front _ _ _ c.in-Some.ensures.steps).0 in search rules

pub bounds-other-v : goal.bounds-other-v
bounds-other-v c = (member_front _ _ _ c.in-Some.ensures.steps).0

pub offset_bounds-self-v : goal.offset_bounds-self-v
offset_bounds-self-v c = let b = (member_front _ _ _ c.in-Some.ensures.steps).0 in search rules

pub bounds-self-v : goal.bounds-self-v
bounds-self-v c = (member_front _ _ _ c.in-Some.ensures.steps).0

pub loop-v-preserved : goal.loop-v-preserved
loop-v-preserved c = (
  tt,
  tt,
  c.loop-v.invariant.2,
  taking_more c.args.cluster.bits c.loop-v.v-iterator.left.bits c.next.new.self.left.bits c.in-Some.v c.args.other.now.near c.args.self.now.near
      c.loop-v.self.near _ c.next.new.self.small c.in-Some.ensures.steps refl c.loop-v.invariant.3,
)

pub returns-clause-near : goal.returns-clause-near
returns-clause-near c =
    taking_all c.args.cluster.bits c.loop-v.v-iterator.left.bits c.args.other.now.near c.args.self.now.near c.loop-v.self.near
    c.in-None.ensures.steps.0 c.loop-v.invariant.3

use Rattle.std.proofs.Common.{rules}
use Rattle.bitset.proofs.Rising.{members_none, members_next}
use Rattle.bitset.proofs.baselines.BaselinesIterator.next.Goals as goal

pub returns-in_err-first-clause-steps : goal.returns-in_err-first-clause-steps
returns-in_err-first-clause-steps c = let z = members_none c.args.self.now.left.bits c.in_err-first.ensures in search rules

pub returns-clause-steps : goal.returns-clause-steps
returns-clause-steps c = members_next _ _ _ c.in_ok-first.ensures c.without-self.ensures.members

pub returns-clause-goes : goal.returns-clause-goes
returns-clause-goes c = let e = members_next _ _ _ c.in_ok-first.ensures c.without-self.ensures.members in search rules

use Rattle.std.proofs.Common.{◌≡◌, [], rules}
use Rattle.layout.specs.Order.{starts_left}
use Rattle.layout.proofs.Preferred.{next_plain, next_cross, next_none}
use Rattle.layout.proofs.order.StartsIterator.next.Goals as goal

pub returns-in_err-x-in-Crossing-clause-steps : goal.returns-in_err-x-in-Crossing-clause-steps
returns-in_err-x-in-Crossing-clause-steps c =
    let e : starts_left c.args.self.now ≡ [] = next_none c.args.self.now c.in-Crossing.crosses c.in-Crossing.is c.in_err-x-in-Crossing.ensures in
    search rules

pub returns-in-All-clause-steps : goal.returns-in-All-clause-steps
returns-in-All-clause-steps c = next_plain _ _ c.in-All.is

pub returns-in-All-clause-goes : goal.returns-in-All-clause-goes
returns-in-All-clause-goes c = let e = next_plain _ _ c.in-All.is in search rules

pub returns-in_ok-x-in-Crossing-clause-steps : goal.returns-in_ok-x-in-Crossing-clause-steps
returns-in_ok-x-in-Crossing-clause-steps c = next_cross _ _ _ _ c.in-Crossing.is c.in_ok-x-in-Crossing.ensures c.without.ensures.members

pub returns-in_ok-x-in-Crossing-clause-goes : goal.returns-in_ok-x-in-Crossing-clause-goes
returns-in_ok-x-in-Crossing-clause-goes c =
    let e = next_cross _ _ _ _ c.in-Crossing.is c.in_ok-x-in-Crossing.ensures c.without.ensures.members in search rules

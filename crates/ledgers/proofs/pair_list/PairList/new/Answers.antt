use Rattle.std.proofs.Common.{rules}
use Rattle.ledgers.proofs.Listed.{kept_none}
use Rattle.ledgers.proofs.pair_list.PairList.new.Goals as goal

pub invariant_of-result : goal.invariant_of-result
invariant_of-result c = kept_none _ (search rules)

use Rattle.ledgers.specs.Listing.{hit}
use Rattle.ledgers.proofs.Listed.{found_any}
use Rattle.ledgers.proofs.pair_list.PairListEvidence.shares.Goals as goal

pub returns : goal.returns
returns c = cc (c.find.ensures, found_any (hit c.args.i c.args.j) c.args.self.now.entries.items)

use Rattle.std.proofs.Common.{◌∙◌}
use Rattle.ledgers.specs.Listing.{listing}
use Rattle.ledgers.proofs.Growth.{grown}
use Rattle.ledgers.proofs.pair_list.PairListLedger.grow.Goals as goal

pub invariant_of-self : goal.invariant_of-self
invariant_of-self c =
    let x = c.args.self.now in
    let g = grown (listing 0 x.entries.items).shares x.baselines.count c.grow.new.self.count c.grow.result c.grow.ensures.ok c.grow.ensures.full x.sound in
    record { sound = g.0; once = x.once; counted = x.counted ∙ g.1 }

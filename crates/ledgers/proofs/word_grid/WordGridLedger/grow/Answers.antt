use Rattle.std.proofs.Common.{◌∙◌}
use Rattle.ledgers.specs.Grid.{grid}
use Rattle.ledgers.proofs.Growth.{grown}
use Rattle.ledgers.proofs.word_grid.WordGridLedger.grow.Goals as goal

pub invariant_of-self : goal.invariant_of-self
invariant_of-self c =
    let g = c.args.self.now in
    let more = grown (grid 0 g.rows).shares g.baselines.count c.grow.new.self.count c.grow.result c.grow.ensures.ok c.grow.ensures.full g.sound in
    record { long = g.long; sound = more.0; counted = g.counted ∙ more.1 }

use Rattle.std.proofs.Common.{ap, ◌∙◌}
use Rattle.bitset.specs.Sets.{minus, put}
use Rattle.layout.specs.Told.{told}
use Rattle.layout.proofs.Tells.{far_put}
use Rattle.layout.proofs.rows.Rows.far.Goals as goal

pub returns : goal.returns
returns c =
    c.with.ensures.bits
    ∙ ap (λ m. put m c.args.v) (c.minus.ensures.bits ∙ ap (λ m. minus m c.args.near.bits) c.row.ensures)
    ∙ far_put (told c.args.self.now) c.args.v c.args.near.bits c.requires

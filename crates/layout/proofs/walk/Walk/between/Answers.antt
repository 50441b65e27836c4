use Rattle.std.proofs.Common.{sym, ap, ◌∙◌, ap₂, rules}
use lib.Bits.{bit_and}
use Rattle.bitset.specs.Sets.{lowest}
use Rattle.bitset.proofs.Members.{lowest_unique}
use Rattle.layout.specs.Told.{told}
use Rattle.layout.proofs.FirstStars.{between_none, between_some}
use Rattle.layout.proofs.walk.Walk.between.Goals as goal

pub returns-in-None : goal.returns-in-None
returns-in-None c =
    c.row-row.ensures ∙ between_none (told c.args.self.now.rows.now) c.args.self.now.root 0 (sym c.row-row.ensures ∙ c.in-None.ensures)

pub returns-in-Some : goal.returns-in-Some
returns-in-Some c =
    let e = lowest_unique c.row-row.result.bits c.in-Some.s (search rules) c.in-Some.ensures in
    c.common.ensures.bits ∙ ap₂ bit_and c.row-row.ensures c.row.ensures
    ∙ between_some (told c.args.self.now.rows.now) c.args.self.now.root c.in-Some.s (e ∙ ap lowest c.row-row.ensures)

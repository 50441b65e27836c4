use Rattle.std.proofs.Common.{◌≡◌, sym, ap, ◌∙◌, ap₂, rules}
use lib.Bits.{bit_or}
use Rattle.bitset.specs.Sets.{lowest, minus, put, Lowest}
use Rattle.bitset.proofs.Members.{not_empty, lowest_unique}
use Rattle.theory.specs.Search.{crossed}
use Rattle.layout.specs.Told.{told}
use Rattle.layout.proofs.Steps.{root_low}
use Rattle.layout.proofs.FirstStars.{first_alone, first_with}
use Rattle.layout.proofs.walk.Walk.first_star.Goals as goal

pub returns-in-None : goal.returns-in-None
returns-in-None c =
    let r = c.args.self.now.root in
    c.with-alone.ensures.bits ∙ ap (λ m. put m r) c.empty.ensures
    ∙ first_alone (told c.args.self.now.rows.now) r 0 c.args.cross (root_low c.args.self.now) (sym c.row.ensures ∙ c.in-None.ensures)

pub returns-in-Some : goal.returns-in-Some
returns-in-Some c =
    let r = c.args.self.now.root in
    let s = c.in-Some.s in
    let low : Lowest c.row.result.bits s = c.in-Some.ensures in
    let two : c.with.result.bits ≡ put (put 0 r) s =
    c.with.ensures.bits ∙ ap (λ m. put m s) (c.with-alone.ensures.bits ∙ ap (λ m. put m r) c.empty.ensures) in
    c.union.ensures.bits
    ∙ ap₂ bit_or two (c.uncrossed.ensures ∙ ap (λ m. minus m (crossed c.args.cross)) c.between.ensures)
    ∙ first_with (told c.args.self.now.rows.now) r s c.args.cross (root_low c.args.self.now) low.below
    (λ z. not_empty c.row.result.bits s low.member (c.row.ensures ∙ z))
    (lowest_unique c.row.result.bits s (search rules) low ∙ ap lowest c.row.ensures)

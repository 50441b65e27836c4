use Rattle.std.proofs.Common.{sym, ap, ◌∙◌, rules}
use Rattle.bitset.specs.Sets.{minus}
use Rattle.theory.specs.Search.{crossed}
use Rattle.layout.proofs.FirstStars.{minus_none, minus_one}
use Rattle.layout.proofs.starts.uncrossed.Goals as goal

pub returns-in-None : goal.returns-in-None
returns-in-None c =
    let m = c.args.set.bits in
    minus_none m (search rules) ∙ ap (λ x. minus m (crossed x)) (sym c.in-None.is)

pub returns-in-Some : goal.returns-in-Some
returns-in-Some c =
    let m = c.args.set.bits in
    minus_one m c.without.result.bits c.in-Some.x (search rules) (search rules) c.without.ensures.members
    ∙ ap (λ x. minus m (crossed x)) (sym c.in-Some.is)

use Rattle.std.proofs.Common.{◌≡◌, MatchBool, sym, refl, ◌∙◌, subst, rules}
use Rattle.layout.specs.Numbers.{Given}
use Rattle.layout.proofs.Giving.{asked_lowest}
use Rattle.layout.proofs.numbers.Numbers.begin.Goals as goal

pub returns-then-eq : goal.returns-then-eq
returns-then-eq c =
    let asked = asked_lowest c.args.a.bits c.lowest.result c.args.v (search rules) c.requires.below c.lowest.ensures in
    subst (λ b. MatchBool b (Given c.args.self.now c.args.a.bits c.give.new.self) (c.give.new.self ≡ c.args.self.now))
    (sym c.if-eq.true ∙ c.eq.ensures ∙ asked) c.give.ensures

pub returns-else-eq : goal.returns-else-eq
returns-else-eq c =
    let asked = asked_lowest c.args.a.bits c.lowest.result c.args.v (search rules) c.requires.below c.lowest.ensures in
    subst (λ b. MatchBool b (Given c.args.self.now c.args.a.bits c.args.self.now) (c.args.self.now ≡ c.args.self.now))
    (sym c.if-eq.false ∙ c.eq.ensures ∙ asked) refl

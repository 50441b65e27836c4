use Rattle.std.proofs.Common.{◌||◌, eqb, sym, ap, ◌∙◌}
use Rattle.std.proofs.lemmas.Bool.{or_left}
use Rattle.theory.specs.Stars.{far}
use Rattle.layout.specs.Quick.{star_of}
use Rattle.layout.specs.Tables.{bits_at}
use Rattle.layout.specs.Told.{told}
use Rattle.layout.proofs.near.NearStars.is_star_of.Goals as goal

pub returns-then-eq : goal.returns-then-eq
unfolding star_of
returns-then-eq c = c.if-eq.true ∙ sym (or_left _ _ (sym c.eq.ensures ∙ c.if-eq.true))

pub returns-else-eq : goal.returns-else-eq
unfolding star_of
returns-else-eq c =
    let a = c.args.a.bits in
    let n = bits_at c.args.self.now.near c.args.w in
    let first = sym c.if-eq.false ∙ c.eq.ensures in
    c.eq-else-eq.ensures ∙ ap (eqb a) c.far.ensures ∙ ap (λ b. b || eqb a (far (told c.args.self.now.rows.now) c.args.w n)) first

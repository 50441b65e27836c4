use Rattle.std.proofs.Common.{◌≡◌, sym, ap, ◌∙◌, rules}
use Rattle.std.proofs.lemmas.Bool.{cond-true, cond-false, eq-eqb, ne_eqb}
use Rattle.bitset.specs.Sets.{lowest}
use Rattle.bitset.proofs.Members.{not_empty, lowest_unique}
use Rattle.layout.specs.Quick.{star_of, quick}
use Rattle.layout.specs.Tables.{bits_at}
use Rattle.layout.specs.Told.{told}
use Rattle.layout.proofs.near.NearStars.star_holds.Goals as goal

pub returns-in-None : goal.returns-in-None
returns-in-None c = absurd (not_empty c.args.a.bits c.args.v c.requires c.in-None.ensures)

pub returns-in-Some : goal.returns-in-Some
unfolding quick
returns-in-Some c =
    let e : c.in-Some.u ≡ lowest c.args.a.bits = lowest_unique c.args.a.bits c.in-Some.u (search rules) c.in-Some.ensures in
    c.is_agreed.ensures ∙ sym (cond-true _ _ _ (eq-eqb _ _ (sym e ∙ c.if-u-v.true)))

pub returns-in-Some-2 : goal.returns-in-Some-2
unfolding quick
returns-in-Some-2 c =
    let e : c.in-Some.u ≡ lowest c.args.a.bits = lowest_unique c.args.a.bits c.in-Some.u (search rules) c.in-Some.ensures in
    c.is_star_of.ensures ∙ ap (star_of (told c.args.self.now.rows.now) (bits_at c.args.self.now.near) c.args.a.bits) e
    ∙ sym (cond-false _ _ _ (ne_eqb _ _ (λ h. c.if-u-v.false (e ∙ h))))

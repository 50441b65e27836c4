use Rattle.std.proofs.Common.{◌≡◌, ◌<◌, true, sym, ap, ◌∙◌, subst, ap₂}
use lib.Bits.{bit_and}
use Rattle.std.proofs.lemmas.Bool.{both_ways, eq-eqb}
use Rattle.bitset.specs.Sets.{has}
use Rattle.bitset.proofs.Members.{has_lt}
use Rattle.theory.specs.Search.{Start, between, passes}
use Rattle.theory.proofs.Firsts.{between_lt}
use Rattle.layout.specs.Told.{told}
use Rattle.layout.proofs.Steps.{root_low}
use Rattle.layout.proofs.FirstStars.{pass_clique, pass_cross}
use Rattle.layout.proofs.walk.Walk.can_pass.Goals as goal

pub row-requires : goal.row-requires
row-requires c =
    let x = c.args.self.now.rows.now in
    let b : has (between (told x) c.args.self.now.root) c.in-Some.x ≡ true = subst (Start (told x) c.args.self.now.root) c.in-Some.is c.requires.start in
    has_lt 64 _ c.in-Some.x (between_lt (told x) x.sound c.args.self.now.root) b

pub returns : goal.returns
returns c pass =
    let x = c.args.self.now.rows.now in
    let r = c.args.self.now.root in
    let low : r < 64 = root_low c.args.self.now in
    let b : has (between (told x) r) c.in-Some.x ≡ true = subst (Start (told x) r) c.in-Some.is c.requires.start in
    absurd (both_ways _ (sym c.is_empty.ensures ∙ c.if-not-is_empty.true)
    (eq-eqb _ _ (c.common.ensures.bits ∙ ap₂ bit_and c.row.ensures c.between.ensures
    ∙ pass_cross (told x) x.sound r c.args.self.now.walked.below low c.in-Some.x b (ap (passes (told x) r) (sym c.in-Some.is) ∙ pass))))

pub returns-2 : goal.returns-2
returns-2 c pass =
    let x = c.args.self.now.rows.now in
    let r = c.args.self.now.root in
    let low : r < 64 = root_low c.args.self.now in
    c.is_clique.ensures (λ v w hv hw. pass_clique (told x) x.sound r c.args.self.now.walked.below low c.args.cross pass v w
    (ap (λ m. has m v) (sym c.requires.first) ∙ hv) (ap (λ m. has m w) (sym c.requires.first) ∙ hw))

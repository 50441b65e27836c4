use Rattle.std.proofs.Common.{◌≡◌, Bool, true, false, ◌&&◌, sym, refl, ap, ◌∙◌, arith}
use Rattle.std.proofs.lemmas.Bool.Decides.{nat_tests}
use Rattle.std.proofs.lemmas.Bool.{and_parts, and_left, or_left, both_ways, eq-eqb}
use Rattle.bitset.specs.Sets.{has}
use Rattle.theory.specs.Stars.{far}
use Rattle.theory.proofs.StarFacts.{far_has}
use Rattle.layout.specs.Quick.{quick, near_fits, quick_at}
use Rattle.layout.specs.Tables.{bits_at}
use Rattle.layout.specs.Told.{told}
use Rattle.layout.proofs.near.NearStars.holds_at.Goals as goal
use Rattle.layout.proofs.near.NearStars.holds_at.Goals.{then-near_fits, else-near_fits}

-- three tests one after the other: the last is asked, or one before it fails
last_asked : (a b c r : Bool) → a ≡ true → b ≡ true → r ≡ c → r ≡ (a && (b && c))
last_asked a b c r h k e = grind (arith, nat_tests)

one_fails : (a b c r : Bool) → r ≡ false → r ≡ b → r ≡ (a && (b && c))
one_fails a b c r h e = grind (arith, nat_tests)

pub star_holds-requires : goal.star_holds-requires
unfolding near_fits
star_holds-requires c = (and_parts _ _ (sym c.near_fits.ensures ∙ c.if-near_fits.true)).0

pub star_holds-requires-then-star_holds : goal.star_holds-requires-then-star_holds
star_holds-requires-then-star_holds c =
    let v = c.args.v in
    ap (λ m. has m v) c.far.ensures ∙ far_has c.args.self.now.rows.now.sound v (bits_at c.args.self.now.near v) v ∙ or_left _ _ (eq-eqb v v refl)

pub returns-then-star_holds : goal.returns-then-star_holds
unfolding quick_at
returns-then-star_holds c =
    let t = told c.args.self.now.rows.now in
    let near = bits_at c.args.self.now.near in
    let v = c.args.v in
    elim c.if-near_fits.branch [
      | then-near_fits w ↦ last_asked (near_fits t near v) (quick t near v (near v)) (quick t near v (far t v (near v))) c.star_holds-then-star_holds.result
          (sym c.near_fits.ensures ∙ w.if-near_fits.true) (sym w.star_holds.ensures ∙ sym w.value-is ∙ c.if-star_holds.true)
          (c.star_holds-then-star_holds.ensures ∙ ap (quick t near v) c.far.ensures)
      | else-near_fits w ↦ absurd (both_ways _ (w.value-is ∙ w.if-near_fits.false) c.if-star_holds.true)
    ]

pub returns-else-star_holds : goal.returns-else-star_holds
unfolding quick_at
returns-else-star_holds c =
    let t = told c.args.self.now.rows.now in
    let near = bits_at c.args.self.now.near in
    let v = c.args.v in
    elim c.if-near_fits.branch [
      | then-near_fits w ↦ one_fails (near_fits t near v) (quick t near v (near v)) (quick t near v (far t v (near v))) c.if-near_fits.value
          c.if-star_holds.false (w.value-is ∙ w.star_holds.ensures)
      | else-near_fits w ↦ c.if-star_holds.false ∙ sym (and_left _ _ (sym c.near_fits.ensures ∙ w.if-near_fits.false))
    ]

use Rattle.std.proofs.Common.{◌<◌, sym, refl, subst, arith}
use Rattle.std.proofs.lemmas.Result.{err_from_is_err_and}
use Rattle.bitset.specs.Sets.{has}
use Rattle.theory.specs.Stars.{star, Stars}
use Rattle.theory.proofs.Begun.{imagers_length}
use Rattle.theory.proofs.Settling.{whole_stars}
use Rattle.layout.specs.declared.rows.Rows.{Rows}
use Rattle.layout.specs.Numbers.{Numbered}
use Rattle.layout.specs.Tables.{bits_at}
use Rattle.layout.specs.Told.{told}
use Rattle.layout.proofs.Answer.{numbered_solved}
use Rattle.layout.proofs.placing.place_rows.Goals as goal

pub returns-in_err-found : goal.returns-in_err-found
returns-in_err-found c =
    let p = err_from_is_err_and c.from_residual.result c.from_residual.ensures.1 in
    let e = c.in_err-found.ensures.answered in
    rw (p.1, p.2) (record { placed = (e.0, e.1, e.2, refl); few = tt })

pub number-numbers-requires : goal.number-numbers-requires
number-numbers-requires c =
    let x = c.args.rows.now in
    let found = c.in_ok-found.found in
    let near = bits_at found.near.near in
    subst (λ (y : Rows). Stars (told y) (λ v. v < y.count) (star (told y) near)) (sym c.in_ok-found.ensures.rows)
    (whole_stars (told x) x.sound near (has found.doubtful.bits) c.in_ok-found.ensures.answered)

pub returns : goal.returns
returns c =
    let x = c.args.rows.now in
    let found = c.in_ok-found.found in
    let near = bits_at found.near.near in
    let numbers = c.number-numbers.result in
    let numbered : Numbered (told x) near found.doubtful.bits numbers =
    subst (λ (y : Rows). Numbered (told y) near found.doubtful.bits numbers) c.in_ok-found.ensures.rows c.number-numbers.ensures in
    rw c.from.ensures (record {
      placed = numbered_solved (told x) x.sound near found.doubtful.bits numbers
          (record { entries = numbers.entries }) refl c.in_ok-found.ensures.answered numbered;
      few = omega (arith, numbered.imagers, imagers_length (told x) near (told x).count, x.sound.few);
    })

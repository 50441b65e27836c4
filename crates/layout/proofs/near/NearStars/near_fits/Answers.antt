use Rattle.std.proofs.Common.{◌≡◌, ◌&&◌, eqb, ap, ◌∙◌, ap₂}
use lib.Bits.{bit_or, or_comm}
use Rattle.bitset.specs.Sets.{minus, single, put}
use Rattle.theory.specs.Stars.{row}
use Rattle.layout.specs.Quick.{near_fits}
use Rattle.layout.specs.Tables.{bits_at}
use Rattle.layout.specs.Told.{told}
use Rattle.layout.proofs.Tells.{put_is}
use Rattle.layout.proofs.near.NearStars.near_fits.Goals as goal

pub returns : goal.returns
unfolding near_fits
returns c =
    let t = told c.args.self.now.rows.now in
    let v = c.args.v in
    let own : c.with.result.bits ≡ bit_or (single v) (row t v) =
    c.with.ensures.bits ∙ ap (λ m. put m v) c.row.ensures ∙ put_is (row t v) v c.requires ∙ or_comm (row t v) (single v) in
    ap₂ ◌&&◌ c.has.ensures
    (c.is_empty.ensures ∙ ap (λ m. eqb m 0) (c.minus.ensures.bits ∙ ap (minus (bits_at c.args.self.now.near v)) own))

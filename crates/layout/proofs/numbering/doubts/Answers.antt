use Rattle.std.proofs.Common.{◌≡◌, ◌&&◌, ltb, get_or, ap, ◌∙◌, arith}
use Rattle.bitset.specs.Sets.{has}
use Rattle.theory.specs.Record.{blank}
use Rattle.layout.specs.Numbers.{unnumbered}
use Rattle.layout.proofs.Marks.{marked_none, marked_more}
use Rattle.layout.proofs.numbering.doubts.Goals as goal

pub loop-v-init : goal.loop-v-init
loop-v-init c = marked_none c.args.doubtful.bits c.new.result.entries c.new.ensures

pub loop-v-preserved : goal.loop-v-preserved
loop-v-preserved c =
    let entries = c.loop-v.entries in
    let v = c.loop-v.v in
    marked_more c.args.doubtful.bits entries v _ (omega (arith, c.requires)) c.loop-v.invariant
    (ap (λ b. record { lower = (get_or entries v blank).lower; higher = (get_or entries v blank).higher; doubtful = b }) c.has.ensures)

pub returns : goal.returns
returns c =
    let e : c.loop-v.v ≡ c.args.count = omega arith in
    record {
      long = c.loop-v.invariant.long;
      told = λ w. c.loop-v.invariant.told w ∙ ap (λ n. unnumbered (ltb w n && has c.args.doubtful.bits w)) e;
    }

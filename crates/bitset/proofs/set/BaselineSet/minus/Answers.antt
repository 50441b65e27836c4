use Rattle.std.proofs.Common.{◌≡◌, ◌-◌, ◌^◌, ap, ◌∙◌, rules}
use lib.Bits.{bit_and}
use Rattle.bitset.specs.Sets.{has, minus}
use Rattle.bitset.proofs.Members.{minus_not, has_minus}
use Rattle.bitset.proofs.set.BaselineSet.minus.Goals as goal

pub returns : goal.returns
returns c =
    let a = c.args.self.bits in
    let b = c.args.other.bits in
    let e : bit_and a (2 ^ 64 - 1 - b) ≡ minus a b = minus_not a b (search rules) (search rules) in
    record { bits = e; members = λ k. ap (λ m. has m k) e ∙ has_minus a b k }

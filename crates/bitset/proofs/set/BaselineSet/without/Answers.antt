use Rattle.std.proofs.Common.{◌≡◌, ◌-◌, ◌*◌, ◌%◌, ◌^◌, ◌<◌, cond, sym, ap, ◌∙◌, rules}
use lib.Bits.{bit_and}
use Rattle.std.proofs.lemmas.Nat.{one_shl, pow_below}
use Rattle.std.proofs.lemmas.Bool.{lt-ltb, le-ltb}
use Rattle.bitset.specs.Sets.{has, minus, drop}
use Rattle.bitset.proofs.Members.{has_drop, minus_not}
use Rattle.bitset.proofs.set.BaselineSet.without.Goals as goal

pub returns-then-i-lt64 : goal.returns-then-i-lt64
returns-then-i-lt64 c =
    let m = c.args.self.bits in
    let i = c.args.i in
    let h = c.if-i-lt64.true in
    let l : m < 2 ^ 64 = search rules in
    let e : bit_and m (2 ^ 64 - 1 - (1 * 2 ^ i) % 2 ^ 64) ≡ drop m i =
    ap (λ x. bit_and m (2 ^ 64 - 1 - x)) (one_shl i 64 h)
    ∙ minus_not m (2 ^ i) l (pow_below i 64 h)
    ∙ sym (ap (λ b. cond b (minus m (2 ^ i)) m) (lt-ltb i 64 h)) in
    record { bits = e; members = λ k. ap (λ x. has x k) e ∙ has_drop m i k l }

pub returns : goal.returns
returns c =
    let m = c.args.self.bits in
    let i = c.args.i in
    let l : m < 2 ^ 64 = search rules in
    let e : m ≡ drop m i = sym (ap (λ b. cond b (minus m (2 ^ i)) m) (le-ltb i 64 c.if-i-lt64.false)) in
    record { bits = e; members = λ k. ap (λ x. has x k) e ∙ has_drop m i k l }

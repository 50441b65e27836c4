use Rattle.std.proofs.Common.{◌≡◌, ◌*◌, ◌%◌, ◌^◌, cond, sym, ap, ◌∙◌}
use lib.Bits.{bit_or}
use Rattle.std.proofs.lemmas.Nat.{one_shl}
use Rattle.std.proofs.lemmas.Bool.{lt-ltb, le-ltb}
use Rattle.bitset.specs.Sets.{has, put}
use Rattle.bitset.proofs.Members.{has_put}
use Rattle.bitset.proofs.set.BaselineSet.with.Goals as goal

pub returns-then-i-lt64 : goal.returns-then-i-lt64
returns-then-i-lt64 c =
    let m = c.args.self.bits in
    let i = c.args.i in
    let h = c.if-i-lt64.true in
    let e : bit_or m ((1 * 2 ^ i) % 2 ^ 64) ≡ put m i =
    ap (bit_or m) (one_shl i 64 h) ∙ sym (ap (λ b. cond b (bit_or m (2 ^ i)) m) (lt-ltb i 64 h)) in
    record { bits = e; members = λ k. ap (λ x. has x k) e ∙ has_put m i k }

pub returns : goal.returns
returns c =
    let m = c.args.self.bits in
    let i = c.args.i in
    let e : m ≡ put m i = sym (ap (λ b. cond b (bit_or m (2 ^ i)) m) (le-ltb i 64 c.if-i-lt64.false)) in
    record { bits = e; members = λ k. ap (λ x. has x k) e ∙ has_put m i k }

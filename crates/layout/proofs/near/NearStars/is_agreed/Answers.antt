use Rattle.std.proofs.Common.{◌≡◌, ◌^◌, ◌<◌, true, false, rules}
use borrow.Author.Tests.{tests}
use Rattle.bitset.proofs.Chains.{members_come, serves_from_members, each_from_all}
use Rattle.layout.specs.Quick.{star_of}
use Rattle.layout.specs.Tables.{bits_at}
use Rattle.layout.specs.Told.{told}
use Rattle.layout.proofs.Quick.{agreed_from}
use Rattle.layout.proofs.near.NearStars.is_agreed.Goals as goal

pub all-requires-clause-callable : goal.all-requires-clause-callable
all-requires-clause-callable c =
    serves_from_members c.args.a.bits (members_come c.into_iter.result c.args.a c.into_iter.ensures.into_iter_gives)
    (λ x q k. search (rules, tests)) (λ x low h. search rules)

pub returns : goal.returns
returns c =
    let t = told c.args.self.now.rows.now in
    let near = bits_at c.args.self.now.near in
    let a = c.args.a.bits in
    let small : a < 2 ^ 64 = search rules in
    agreed_from t near a c.all.result small
    (each_from_all a (members_come c.into_iter.result c.args.a c.into_iter.ensures.into_iter_gives) c.all.new.self _ c.all.result
    (λ w. star_of t near a w ≡ true) (λ w. star_of t near a w ≡ false) small c.all.ensures.ran
    (λ x q k. search (rules, tests)) (λ x q k. search (rules, tests)))

use Rattle.std.proofs.Common.{◌≡◌, ℕ, ◌≢◌, ◌^◌, ◌<◌, rules}
use borrow.Author.Tests.{tests}
use Rattle.bitset.specs.Sets.{minus, put}
use Rattle.bitset.proofs.Chains.{members_come, serves_from_members, each_from_all, true_from_each}
use Rattle.theory.specs.Stars.{row}
use Rattle.layout.specs.Told.{told}
use Rattle.layout.proofs.FirstStars.{clique_within}
use Rattle.layout.proofs.rows.Rows.is_clique.Goals as goal

pub all-requires-clause-callable : goal.all-requires-clause-callable
all-requires-clause-callable c =
    serves_from_members c.args.a.bits (members_come c.into_iter.result c.args.a c.into_iter.ensures.into_iter_gives)
    (λ x q k. search (rules, tests)) (λ x low h. search rules)

pub returns : goal.returns
returns c clique =
    let t = told c.args.self.now in
    let a = c.args.a.bits in
    let small : a < 2 ^ 64 = search rules in
    let Yes : ℕ → Type 0 = λ v. minus a (put (row t v) v) ≡ 0 in
    let No : ℕ → Type 0 = λ v. minus a (put (row t v) v) ≢ 0 in
    true_from_each a Yes No c.all.result (λ v p q. q p) small
    (each_from_all a (members_come c.into_iter.result c.args.a c.into_iter.ensures.into_iter_gives) c.all.new.self _ c.all.result Yes No small c.all.ensures.ran
    (λ x q k. search (rules, tests)) (λ x q k. search (rules, tests)))
    (λ v low h. clique_within t c.args.self.now.sound a v small low (λ w. clique v w h))

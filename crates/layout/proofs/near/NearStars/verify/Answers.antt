use Rattle.std.proofs.Common.{◌≡◌, ℕ, true, false, MatchBool, sym, subst, rules}
use borrow.Author.Tests.{tests}
use Rattle.bitset.specs.Sets.{has}
use Rattle.bitset.proofs.Chains.{members_come, serves_from_members, each_from_all}
use Rattle.layout.specs.declared.rows.Rows.{Rows}
use Rattle.layout.specs.Quick.{quick_at}
use Rattle.layout.specs.Tables.{bits_at}
use Rattle.layout.specs.Told.{told}
use Rattle.layout.proofs.Quick.{verified_by}
use Rattle.layout.proofs.near.NearStars.verify.Goals as goal

pub all-requires-clause-callable : goal.all-requires-clause-callable
all-requires-clause-callable c =
    serves_from_members c.args.walk.now.met.bits (members_come c.into_iter.result c.args.walk.now.met c.into_iter.ensures.into_iter_gives)
    (λ x q k. search (rules, tests)) (λ x low h. search rules)

pub returns : goal.returns
returns c =
    let x = c.args.self.now.rows.now in
    let near = bits_at c.args.self.now.near in
    let w = c.args.walk.now in
    verified_by w near c.all.result c.requires.small
    (subst (λ (x : Rows). MatchBool c.all.result ((v : ℕ) → has w.met.bits v ≡ true → quick_at (told x) near v ≡ true)
    ((v : ℕ) × (has w.met.bits v ≡ true) × (quick_at (told x) near v ≡ false))) (sym c.requires.rows)
    (each_from_all w.met.bits (members_come c.into_iter.result w.met c.into_iter.ensures.into_iter_gives) c.all.new.self _ c.all.result
    (λ v. quick_at (told x) near v ≡ true) (λ v. quick_at (told x) near v ≡ false) (search rules) c.all.ensures.ran
    (λ x q k. search (rules, tests)) (λ x q k. search (rules, tests))))

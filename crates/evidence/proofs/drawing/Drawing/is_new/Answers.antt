use Rattle.std.proofs.Common.{◌≡◌, ℕ, true, false, rules, tests, arith}
use Rattle.std.proofs.lemmas.Iterator.{cases_from_all, YieldsList-from_range}
use Rattle.evidence.specs.Drawing.{entry, same_two}
use Rattle.evidence.proofs.Ranges.{all_below}
use Rattle.evidence.proofs.drawing.Drawing.is_new.Goals as goal

pub returns-then-d : goal.returns-then-d
returns-then-d c =
    let i = c.args.i in
    let d = entry c.args.self.now.bytes.now i in
    let Other : ℕ → Type 0 = λ j. same_two d (entry c.args.self.now.bytes.now j) ≡ false in
    let Same : ℕ → Type 0 = λ j. same_two d (entry c.args.self.now.bytes.now j) ≡ true in
    let all =
    all_below i Other Same c.all.result (λ j p q. cc)
    (cases_from_all _ _ _ Other Same c.all.ensures.ran (YieldsList-from_range 0 i i (cc) (omega arith)) (λ x q k. search (rules, tests)) (λ x q k. search (rules, tests))) in
    let is = c.entry_of-d.ensures in
    ((λ e. record { different = λ p. c.if-d.true (cc); distinct = all.0 e }), (λ new. all.1 new.distinct))

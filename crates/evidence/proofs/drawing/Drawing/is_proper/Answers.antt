use Rattle.std.proofs.Common.{ℕ, rules, tests, arith}
use Rattle.std.proofs.lemmas.Iterator.{cases_from_all, YieldsList-from_range}
use Rattle.evidence.specs.Drawing.{entries, New}
use Rattle.evidence.proofs.Ranges.{all_below}
use Rattle.evidence.proofs.Drawings.{proper_from, new_from, line_graph}
use Rattle.evidence.proofs.drawing.Drawing.is_proper.Goals as goal

pub returns : goal.returns
returns c =
    let bytes = c.args.self.now.bytes.now in
    let n = entries bytes in
    let Old : ℕ → Type 0 = λ i. New bytes i → ⊥ in
    let all =
    all_below n (New bytes) Old c.all.result (λ i p q. q p)
    (cases_from_all _ _ _ (New bytes) Old c.all.ensures.ran (YieldsList-from_range 0 n n (cc) (omega arith)) (λ x q k. search (rules, tests)) (λ x q k. search (rules, tests))) in
    record {
      told = ((λ e. proper_from bytes (all.0 e)), (λ proper. all.1 (new_from bytes proper)));
      graph = line_graph bytes;
    }

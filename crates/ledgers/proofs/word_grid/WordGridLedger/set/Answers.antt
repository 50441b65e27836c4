use Rattle.std.proofs.Common.{not, sym, ap, ◌∙◌, rules, arith}
use Rattle.evidence.proofs.PairCounts.{one_if}
use Rattle.ledgers.proofs.Grids.{written_pairs, written_kept}
use Rattle.ledgers.proofs.Sets.{beq_other}
use Rattle.ledgers.proofs.word_grid.WordGridLedger.set.Goals as goal
use Rattle.ledgers.proofs.word_grid.WordGridLedger.set.Goals.{then-on-2, else-on-2}

pub overflow_sub-self : goal.overflow_sub-self
overflow_sub-self c =
    let moved =
    written_pairs c.args.self.now c.args.i c.args.j c.args.on (search rules) c.put_in.result c.put_in-2.result c.put_in.ensures c.put_in-2.ensures in
    let was = sym c.has.ensures ∙ beq_other c.has.result c.args.on c.if-has-on.false ∙ ap not c.if-on-2.false in
    omega (arith, moved, ap one_if was, ap one_if c.if-on-2.false)

pub invariant_of-self : goal.invariant_of-self
invariant_of-self c =
    let moved =
    written_pairs c.args.self.now c.args.i c.args.j c.args.on (search rules) c.put_in.result c.put_in-2.result c.put_in.ensures c.put_in-2.ensures in
    let was = ap one_if (sym c.has.ensures ∙ beq_other c.has.result c.args.on c.if-has-on.false) in
    written_kept c.args.self.now c.args.i c.args.j c.args.on (search rules) c.put_in.result c.put_in-2.result c.put_in.ensures c.put_in-2.ensures
    c.if-on-2.self (elim c.if-on-2.branch [
      | then-on-2 w ↦ omega (arith, moved, was, w.self-is, ap one_if w.if-on-2.true, ap (λ b. one_if (not b)) w.if-on-2.true)
      | else-on-2 w ↦ omega (arith, moved, was, w.self-is, ap one_if w.if-on-2.false, ap (λ b. one_if (not b)) w.if-on-2.false)
    ])

use Rattle.std.proofs.Common.{sym, ◌∙◌, arith}
use Rattle.std.proofs.lemmas.List.{at_drop_all}
use Rattle.std.proofs.lemmas.Bool.{both_ways}
use Rattle.files.proofs.Spelled.{not_begun, not_long, not_digit, not_large, is_number, read_on}
use Rattle.files.proofs.number.read_number.Goals.{then-begins_wrong-via-then-begins_wrong, then-begins_wrong-via-else-begins_wrong+then-bytes-gt-MOST_DIGITS}
use Rattle.files.proofs.number.read_number.Goals as goal

pub returns-then-begins_wrong : goal.returns-then-begins_wrong
returns-then-begins_wrong c =
    elim c.then-begins_wrong.branch [
      | then-begins_wrong-via-then-begins_wrong w ↦ not_begun c.args.bytes.now (c.begins_wrong.ensures.0 w.if-begins_wrong.true)
      | then-begins_wrong-via-else-begins_wrong+then-bytes-gt-MOST_DIGITS w ↦ not_long c.args.bytes.now (omega arith)
    ]

pub returns-in_err-n : goal.returns-in_err-n
returns-in_err-n c =
    rw c.from_residual.ensures (not_digit c.args.bytes.now c.loop-byte.byte-index (omega arith) c.in_err-n.ensures)

pub returns-then-n-gt-MOST : goal.returns-then-n-gt-MOST
returns-then-n-gt-MOST c =
    let e = sym (at_drop_all (read_on c.loop-byte.n) c.args.bytes.now c.loop-byte.byte-index (omega arith)) ∙ c.loop-byte.invariant.read in
    not_large c.args.bytes.now (omega (arith, e))

pub returns : goal.returns
returns c =
    let bytes = c.args.bytes.now in
    let e = sym (at_drop_all (read_on c.loop-byte.n) bytes c.loop-byte.byte-index (omega arith)) ∙ c.loop-byte.invariant.read in
    is_number bytes c.loop-byte.n (λ k h. c.loop-byte.invariant.digits k (omega arith))
    (λ wrong. both_ways c.begins_wrong.result c.if-begins_wrong.false (c.begins_wrong.ensures.1 wrong)) (sym e) (omega arith)

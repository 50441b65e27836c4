use Rattle.std.proofs.Common.{◌+◌, ◌*◌, ◌≤◌, length, take}
use Rattle.files.proofs.Lines.{begun}
use Rattle.files.proofs.line.tell_line.Given as goal

abbrev pub invariant-loop-field : goal.invariant-loop-field
invariant-loop-field g l =
    let text = begun l.word (take l.field-index l.fields) in
    record { told : g.S.Sink.Took l.fn.sink text l.sink; few : length text ≤ length l.word + 6 * l.field-index }

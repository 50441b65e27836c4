use Rattle.std.proofs.Common.{◌+◌, ◌*◌, ◌≤◌, ◌++◌, length}
use Rattle.files.specs.Contents.{table_head_of, table_row_of}
use Rattle.files.specs.Each.{each}
use Rattle.files.proofs.table.TableText.tell.Given as goal

abbrev pub invariant-loop-i : goal.invariant-loop-i
invariant-loop-i g l =
    let lines = table_head_of l.self.contents.now ++ each (table_row_of l.self.contents.now) l.i in
    record { told : g.S.Sink.Took l.fn.sink lines l.sink; few : length lines ≤ 32 + 32 * l.i }

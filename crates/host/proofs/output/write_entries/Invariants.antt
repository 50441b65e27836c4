use Rattle.std.proofs.Common.{◌≡◌, ◌*◌, ◌++◌, drop}
use Rattle.host.specs.Entered.{told}
use Rattle.host.proofs.output.write_entries.Given as goal

abbrev pub invariant-loop-i : goal.invariant-loop-i
invariant-loop-i l = l.out ≡ told l.told_by l.i ++ drop (3 * l.i) l.initial.out

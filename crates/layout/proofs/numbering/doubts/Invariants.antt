use Rattle.layout.proofs.Marks.{Marked}
use Rattle.layout.proofs.numbering.doubts.Given as goal

abbrev pub invariant-loop-v : goal.invariant-loop-v
invariant-loop-v l = Marked l.doubtful.bits l.entries l.v

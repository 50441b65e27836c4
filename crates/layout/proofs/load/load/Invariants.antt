use Rattle.layout.proofs.Loaded.{Loaded}
use Rattle.layout.proofs.load.load.Given as goal

abbrev pub invariant-loop-i : goal.invariant-loop-i
invariant-loop-i g l = Loaded (g.E.Evidence.meaning l.evidence) l.rows l.i

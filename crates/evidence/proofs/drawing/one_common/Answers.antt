use Rattle.std.proofs.Common.{rules}
use Rattle.evidence.proofs.Drawings.{one_told}
use Rattle.evidence.proofs.drawing.one_common.Goals as goal

pub returns-then-some-clause-fact : goal.returns-then-some-clause-fact
returns-then-some-clause-fact c = one_told c.args.d c.args.e _ (search rules)

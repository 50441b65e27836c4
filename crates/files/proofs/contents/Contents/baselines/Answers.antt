use Rattle.std.proofs.Common.{arith}
use Rattle.std.proofs.lemmas.List.{length-take}
use Rattle.files.proofs.contents.Contents.baselines.Goals as goal

pub returns-clause-same : goal.returns-clause-same
returns-clause-same c = let l = length-take 64 c.args.self.now.spans.now in omega arith

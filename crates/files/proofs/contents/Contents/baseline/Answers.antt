use Rattle.std.proofs.lemmas.List.{get_or-take}
use Rattle.files.proofs.contents.Contents.baseline.Goals as goal

pub returns : goal.returns
returns c = let span = get_or-take 64 c.args.self.now.spans.now c.args.i 0 c.requires.read in cc

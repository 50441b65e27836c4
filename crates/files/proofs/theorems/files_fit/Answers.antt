use Rattle.files.proofs.Sizes.{files_fit}
use Rattle.files.proofs.theorems.files_fit.Goals as goal

pub returns : goal.returns
returns c = files_fit

use Rattle.std.proofs.Common.{refl}
use Rattle.bitset.proofs.Members.{has_and}
use Rattle.bitset.proofs.set.BaselineSet.common.Goals as goal

pub returns : goal.returns
returns c = record { bits = refl; members = has_and c.args.self.bits c.args.other.bits }

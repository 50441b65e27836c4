use Rattle.std.proofs.Common.{refl}
use Rattle.bitset.proofs.Members.{has_or}
use Rattle.bitset.proofs.set.BaselineSet.union.Goals as goal

pub returns : goal.returns
returns c = record { bits = refl; members = has_or c.args.self.bits c.args.other.bits }

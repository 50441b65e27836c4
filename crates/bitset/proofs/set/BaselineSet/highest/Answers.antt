use Rattle.std.proofs.Common.{◌∙◌, rules}
use Rattle.std.proofs.lemmas.Bool.{both_ways, eq-eqb}
use Rattle.bitset.proofs.Members.{highest_is}
use Rattle.bitset.proofs.set.BaselineSet.highest.Goals as goal

pub returns : goal.returns
returns c = highest_is c.args.self.bits (λ e. both_ways c.is_empty.result c.if-is_empty.false (c.is_empty.ensures ∙ eq-eqb _ _ e)) (search rules)

use Rattle.std.proofs.Common.{sym, ◌∙◌, rules}
use Rattle.std.proofs.lemmas.Bool.{le-ltb}
use Rattle.bitset.proofs.Members.{has_shift, has_past}
use Rattle.bitset.proofs.set.BaselineSet.has.Goals as goal

pub returns-then-i-lt64 : goal.returns-then-i-lt64
returns-then-i-lt64 c = sym (has_shift c.args.self.bits c.args.i)

pub returns-else-i-lt64 : goal.returns-else-i-lt64
returns-else-i-lt64 c =
    le-ltb c.args.i 64 c.if-i-lt64.false
    ∙ sym (has_past 64 c.args.self.bits c.args.i (search rules) c.if-i-lt64.false)

-- The empty set, as a value.
use Rattle.bitset.specs.declared.set.BaselineSet.{BaselineSet}

-- The set with no member.
abbrev pub none : BaselineSet
none = record { bits = 0 }

-- The table that rows tell.
use Rattle.std.specs.Prelude.{ℕ, List, slice_index_or}
use Rattle.bitset.specs.declared.set.BaselineSet.{BaselineSet}
use Rattle.bitset.specs.Sets.{has}
pub use Rattle.bitset.specs.Empty.{none}
use Rattle.evidence.specs.Table.{Table}

-- The members of the set of baseline i.
abbrev pub bits_at : List BaselineSet → ℕ → ℕ
bits_at sets i = (slice_index_or sets i none).bits

-- Two baselines share when the row of the one has the other.
abbrev pub table_of : ℕ → List BaselineSet → Table
table_of count rows = record { count = count; shares = λ i j. has (bits_at rows i) j }

-- The table that a grid of words holds.
use Rattle.std.specs.Prelude.{ℕ, List, slice_index_or}
use Rattle.bitset.specs.declared.set.BaselineSet.{BaselineSet}
use Rattle.bitset.specs.Sets.{has}
pub use Rattle.bitset.specs.Empty.{none}
use Rattle.evidence.specs.Table.{Table}

-- Two baselines share when the row of the one has the other.
abbrev pub grid : ℕ → List BaselineSet → Table
grid count rows = record { count = count; shares = λ i j. has (slice_index_or rows i none).bits j }

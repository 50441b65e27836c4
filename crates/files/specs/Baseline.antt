-- What the files tell of a baseline.
use Rattle.std.specs.Prelude.{ℕ, Bool, List}
use Rattle.theory.specs.Layout.{Ends, stands}
use Rattle.files.specs.declared.baseline.Baseline.{Baseline}
use Rattle.files.specs.Profile.{profile_lens}
use Rattle.files.specs.Table.{table_row}

-- Its two imagers.
abbrev pub ends_at : Baseline → Ends
ends_at b = (b.entry.lower, b.entry.higher)

-- Its line in the table.
abbrev pub row_of : Baseline → List ℕ
row_of b = table_row b.number (ends_at b) b.span b.entry.doubtful

-- Whether imager a is at it, and the line of imager a for it.
abbrev pub is_at : ℕ → Baseline → Bool
is_at a b = stands a (ends_at b)

abbrev pub lens_at : ℕ → Baseline → List ℕ
lens_at a b = profile_lens a b.number b.span

-- What a record tells of each baseline.
use Rattle.std.specs.Prelude.{ℕ, Bool, false, slice_index_or}
use Rattle.theory.specs.declared.record.Entry.{Entry}
use Rattle.theory.specs.declared.record.Record.{Record}
use Rattle.theory.specs.Layout.{Ends}

-- An entry that is zero.
abbrev pub blank : Entry
blank = record { lower = 0; higher = 0; doubtful = false }

-- The entry of baseline i.
abbrev pub entry_of : Record → ℕ → Entry
entry_of r i = slice_index_or r.entries i blank

-- The two imagers of baseline i.
abbrev pub ends_of : Record → ℕ → Ends
ends_of r i = ((entry_of r i).lower, (entry_of r i).higher)

-- Whether baseline i is doubtful.
abbrev pub doubt_of : Record → ℕ → Bool
doubt_of r i = (entry_of r i).doubtful

-- Imagers that get their numbers one after the other.
use Rattle.std.specs.Prelude.{◌≡◌, ℕ, ◌+◌, ◌<◌, ◌≤◌, Bool, true, false, cond, ◌||◌, length, MatchBool, ◌==◌, slice_index_or}
use Rattle.bitset.specs.Sets.{has, lowest}
use Rattle.theory.specs.declared.record.Entry.{Entry}
use Rattle.theory.specs.Record.{blank}
use Rattle.evidence.specs.Table.{Table}
use Rattle.theory.specs.Imagers.{all_stars, layout_of}
use Rattle.layout.specs.declared.numbers.Numbers.{Numbers}

-- The entry with one imager more: its lower one, or where it has that already its higher one.
abbrev pub given : Entry → Bool → ℕ → Entry
given e true n = record { lower = e.lower; higher = n; doubtful = e.doubtful }
given e false n = record { lower = n; higher = e.higher; doubtful = e.doubtful }

-- The star got the next number: each baseline in it has that imager.
pub record Given (before : Numbers) (star : ℕ) (after : Numbers) : Type 0 where
  pub next : after.next ≡ before.next + 1
  pub begun : (w : ℕ) → has after.begun.bits w ≡ (has before.begun.bits w || has star w)
  pub entries : (w : ℕ) → slice_index_or after.entries w blank
      ≡ cond (has star w) (given (slice_index_or before.entries w blank) (has before.begun.bits w) before.next) (slice_index_or before.entries w blank)

-- The star got the next number if v is its lowest baseline; else nothing changed.
abbrev pub Begun : Numbers → ℕ → ℕ → Numbers → Type 0
Begun before v star after = MatchBool (lowest star == v) (Given before star after) (after ≡ before)

-- An entry without imagers.
abbrev pub unnumbered : Bool → Entry
unnumbered doubtful = record { lower = 0; higher = 0; doubtful = doubtful }

-- All imagers have their numbers: each entry below the count tells the ends of its baseline and whether it is doubtful,
-- and the others are zero.
pub record Numbered (t : Table) (near : ℕ → ℕ) (doubtful : ℕ) (x : Numbers) : Type 0 where
  pub imagers : x.next ≡ length (all_stars t near)
  pub told : (w : ℕ) → w < t.count
      → slice_index_or x.entries w blank ≡ record { lower = (layout_of t near w).0; higher = (layout_of t near w).1; doubtful = has doubtful w }
  pub past : (w : ℕ) → t.count ≤ w → slice_index_or x.entries w blank ≡ blank

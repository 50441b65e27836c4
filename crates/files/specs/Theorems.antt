-- What is proved of the definitions alone.
use Rattle.std.specs.Prelude.{◌≡◌, ℕ, ◌+◌, ◌<◌, ◌≤◌, Bool, List, [], length, slice_index, slice_index_or}
use Rattle.theory.specs.Layout.{Ends}
use Rattle.files.specs.Line.{parted}
use Rattle.files.specs.Profile.{profile_bytes}
use Rattle.files.specs.Reading.{Lacks, fields}
use Rattle.files.specs.Table.{table_bytes}

-- The two files of an issue have at most 4,096 bytes together, for numbers of 16 bits, issues up to 9,999,
-- 64 baselines and 128 imagers. (The two imagers of a baseline need not differ.)
abbrev pub FilesFit : Type 0
FilesFit =
    (survey issue imagers : ℕ) (spans : List ℕ) (ends : ℕ → Ends) (doubtful : ℕ → Bool)
    → survey < 65536 → issue ≤ 9999 → imagers ≤ 128 → length spans ≤ 64
    → ((i : ℕ) → i < length spans → slice_index spans i < 65536)
    → ((i : ℕ) → i < length spans → ((ends i).0 < imagers) × ((ends i).1 < imagers))
    → length (profile_bytes survey issue imagers spans ends) + length (table_bytes survey issue spans ends doubtful) ≤ 4096

-- Texts that have no comma are the fields of the line that they make, if there are any,
-- and the fields of a line make it again.
pub record LinesReadBack : Type 0 where
  pub fields_parted : (texts : List (List ℕ)) → 0 < length texts → ((k : ℕ) → k < length texts → Lacks 44 (slice_index_or texts k [])) → fields (parted texts) ≡ texts
  pub parted_fields : (line : List ℕ) → parted (fields line) ≡ line

-- The two files of the rig, byte by byte, and what writing them answers and leaves.
use Rattle.std.specs.Prelude.{◌≡◌, ℕ, ◌+◌, ◌<◌, ◌≤◌, List, [], ◌∷◌, ◌++◌, length, drop, Ok, Err, codes, decimal, Result}
use Rattle.evidence.specs.declared.refusal.Refusal.{Refusal}
use Rattle.evidence.specs.declared.refusal.Refusal.TheVariants.{NoRoom}
use Rattle.worked.specs.declared.answers.Lengths.{Lengths}

-- Lines, each ended by byte 10.
abbrev pub lines : List (List ℕ) → List ℕ
lines [] = []
lines (text ∷ texts) = text ++ (10 ∷ lines texts)

-- The lens profile of the first issue of survey n.
unfoldable pub profile_file : ℕ → List ℕ
profile_file n = lines (
    (codes "P," ++ (decimal n ++ codes ",1,3"))
    ∷ codes "L,0,0,500"
    ∷ codes "L,0,1,620"
    ∷ codes "L,1,0,500"
    ∷ codes "L,2,1,620"
    ∷ [])

-- Its rectification table.
unfoldable pub table_file : ℕ → List ℕ
table_file n = lines (
    (codes "T," ++ (decimal n ++ codes ",1,2"))
    ∷ codes "R,0,0,1,500,C"
    ∷ codes "R,1,0,2,620,C"
    ∷ [])

-- A buffer with a text written over its beginning, and the rest as it was.
abbrev pub begun_with : List ℕ → List ℕ → List ℕ
begun_with text old = text ++ drop (length text) old

-- What writing the two files answers and leaves: both stand in the buffer, the table right after the profile; or the profile
-- alone, and the table is refused; or the profile is refused, and the buffer is as it was.
pub record Issued (n : ℕ) (old new : List ℕ) (r : Result Lengths Refusal) : Type 0 where
  pub both : length (profile_file n) + length (table_file n) ≤ length old
      → (r ≡ Ok (record { profile = length (profile_file n); table = length (table_file n) }))
      × (new ≡ begun_with (profile_file n ++ table_file n) old)
  pub one : length (profile_file n) ≤ length old → length old < length (profile_file n) + length (table_file n)
      → (r ≡ Err (NoRoom (length (table_file n)))) × (new ≡ begun_with (profile_file n) old)
  pub neither : length old < length (profile_file n)
      → (r ≡ Err (NoRoom (length (profile_file n)))) × (new ≡ old)

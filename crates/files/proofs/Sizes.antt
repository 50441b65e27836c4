-- How long the files can be.
use Rattle.std.proofs.Common.{◌≡◌, ℕ, ◌+◌, ◌*◌, ◌<◌, ◌≤◌, Bool, true, false, cond, List, [], ◌∷◌, length, get_or, decimal, refl, arith}
use Rattle.std.proofs.lemmas.Fmt.{length-decimal-le}
use Rattle.std.proofs.lemmas.List.{length-append}
use Rattle.evidence.specs.Pairs.{sum_to}
use Rattle.theory.specs.Layout.{Ends, stands}
use Rattle.files.specs.Each.{each}
use Rattle.files.specs.Forms.{mark_text}
use Rattle.files.specs.Line.{line}
use Rattle.files.specs.Profile.{profile_head, profile_lens, imager_lines, profile_bytes}
use Rattle.files.specs.Table.{table_head, table_row, table_bytes}
use Rattle.files.specs.Theorems.{FilesFit}
use Rattle.files.proofs.Imagers.{joined_each}
use Rattle.files.proofs.Sums.{length_each_le, sum_le, sum_swap, two_ends}

-- how many digits a number has at most
two : (v : ℕ) → v < 100 → length (decimal v) ≤ 2
two v h = length-decimal-le 2 v (omega arith) h (omega arith)

three : (v : ℕ) → v < 1000 → length (decimal v) ≤ 3
three v h = length-decimal-le 3 v (omega arith) h (omega arith)

four : (v : ℕ) → v < 10000 → length (decimal v) ≤ 4
four v h = length-decimal-le 4 v (omega arith) h (omega arith)

five : (v : ℕ) → v < 65536 → length (decimal v) ≤ 5
five v h = length-decimal-le 5 v (omega arith) (omega arith) (omega arith)

-- a line of a letter and three numbers
line_of_three : (b x y z : ℕ) → length (line ((b ∷ []) ∷ decimal x ∷ decimal y ∷ decimal z ∷ []))
    ≡ 5 + length (decimal x) + length (decimal y) + length (decimal z)
unfolding line
line_of_three b x y z = simp length-append (omega arith)

mark_one : (b : Bool) → length (mark_text b) ≡ 1
mark_one true = refl
mark_one false = refl

line_of_row : (i : ℕ) (e : Ends) (s : ℕ) (d : Bool) → length (table_row i e s d)
    ≡ 8 + length (decimal i) + length (decimal e.0) + length (decimal e.1) + length (decimal s)
unfolding line
line_of_row i e s d = let m = mark_one d in simp length-append (omega arith)

-- the lines of the imagers: each baseline stands in at most two
lens_le : (b : Bool) (a i s : ℕ) → a < 256 → i < 64 → s < 65536 → length (cond b (profile_lens a i s) []) ≤ cond b 15 0
lens_le true a i s p q r =
    omega (arith, line_of_three 76 a i s, three a (omega arith), two i (omega arith), five s r)
lens_le false a i s p q r = omega arith

module _ (imagers : ℕ) (spans : List ℕ) (ends : ℕ → Ends) (few : imagers < 256) (short : length spans ≤ 64)
    (small : (i : ℕ) → i < length spans → get_or spans i 0 < 65536) where
  imager_le : (a : ℕ) → a < imagers → length (imager_lines spans ends a) ≤ sum_to (length spans) (λ i. cond (stands a (ends i)) 15 0)
  imager_le a l =
      rw (joined_each (λ i. profile_lens a i (get_or spans i 0)) ends a (length spans))
      (length_each_le _ _ (length spans) (λ i k. lens_le (stands a (ends i)) a i (get_or spans i 0) (omega arith) (omega arith) (small i k)))

  pub lenses_le : length (each (imager_lines spans ends) imagers) ≤ length spans * 30
  lenses_le =
      let rows = length_each_le (imager_lines spans ends) (λ a. sum_to (length spans) (λ i. cond (stands a (ends i)) 15 0)) imagers imager_le in
      let swap = sum_swap imagers (length spans) (λ a i. cond (stands a (ends i)) 15 0) in
      let twice = sum_le (length spans) 30 (λ i. sum_to imagers (λ a. cond (stands a (ends i)) 15 0)) (λ i k. two_ends (ends i) 15 imagers) in
      omega arith

  pub rows_le : (doubtful : ℕ → Bool) → ((i : ℕ) → i < length spans → ((ends i).0 < 256) × ((ends i).1 < 256))
      → length (each (λ i. table_row i (ends i) (get_or spans i 0) (doubtful i)) (length spans)) ≤ length spans * 21
  rows_le doubtful within =
      omega (arith, length_each_le _ (λ _. 21) (length spans) row_le, sum_le (length spans) 21 (λ _. 21) (λ _ _. omega arith))
    where
      row_le : (i : ℕ) → i < length spans → length (table_row i (ends i) (get_or spans i 0) (doubtful i)) ≤ 21
      row_le i l =
          omega (
            arith,
            line_of_row i (ends i) (get_or spans i 0) (doubtful i),
            two i (omega arith),
            three (ends i).0 (omega (arith, (within i l).0)),
            three (ends i).1 (omega (arith, (within i l).1)),
            five (get_or spans i 0) (small i l),
          )

-- so both files have at most 3,297 bytes, where an imager is any number of a byte
pub bytes_fit : (survey issue imagers : ℕ) (spans : List ℕ) (ends : ℕ → Ends) (doubtful : ℕ → Bool)
    → survey < 65536 → issue ≤ 9999 → imagers < 256 → length spans ≤ 64
    → ((i : ℕ) → i < length spans → get_or spans i 0 < 65536)
    → ((i : ℕ) → i < length spans → ((ends i).0 < 256) × ((ends i).1 < 256))
    → length (profile_bytes survey issue imagers spans ends) + length (table_bytes survey issue spans ends doubtful) ≤ 3297
bytes_fit survey issue imagers spans ends doubtful s k few short small within =
    omega (
      arith,
      length-append (profile_head survey issue imagers) (each (imager_lines spans ends) imagers),
      length-append (table_head survey issue (length spans)) (each (λ i. table_row i (ends i) (get_or spans i 0) (doubtful i)) (length spans)),
      line_of_three 80 survey issue imagers,
      line_of_three 84 survey issue (length spans),
      five survey s,
      four issue (omega arith),
      three imagers (omega arith),
      two (length spans) (omega arith),
      lenses_le imagers spans ends few short small,
      rows_le imagers spans ends few short small doubtful within,
    )

-- and so they have room in 4,096, where there are at most 128 imagers
pub files_fit : FilesFit
files_fit survey issue imagers spans ends doubtful s k few short small within =
    omega (
      arith,
      bytes_fit survey issue imagers spans ends doubtful s k (omega arith) short small
          (λ i l. (omega (arith, (within i l).0), omega (arith, (within i l).1))),
    )

-- The lines of a sheet.
use Rattle.std.specs.Prelude.{◌≡◌, ℕ, ◌+◌, ◌-◌, ◌<◌, ◌≤◌, cond, List, [], ◌∷◌, length, ◌==◌, ◌≢◌, slice_index}
use Rattle.files.specs.Reading.{put_before}
use Rattle.lines.specs.declared.sheet.SheetLines.{SheetLines}

-- The line that begins at a place ends before `end`: at its first byte 10, or where the bytes end.
pub record LineEnd (bytes : List ℕ) (at end : ℕ) : Type 0 where
  pub within : end ≤ length bytes
  pub further : at < length bytes → at < end
  pub inside : (k : ℕ) → at ≤ k → k + 1 < end → slice_index bytes k ≢ 10
  pub ended : end < length bytes → slice_index bytes (end - 1) ≡ 10

-- The lines of a sheet: each ends in its byte 10, and bytes after the last byte 10, if there are any, are one more line.
unfoldable pub lines_of : List ℕ → List (List ℕ)
lines_of [] = []
lines_of (b ∷ bytes) = cond (b == 10) ((b ∷ []) ∷ lines_of bytes) (put_before b (lines_of bytes))

-- Those that `SheetLines` has still to hand out.
abbrev pub lines_left : SheetLines → List (List ℕ)
lines_left reader = lines_of reader.rest.now

-- The files of what the code is told.
use Rattle.std.specs.Prelude.{ℕ, Bool, cond, List, [], length, take, slice_index}
use Rattle.theory.specs.Layout.{stands}
use Rattle.theory.specs.Record.{entry_of, ends_of, doubt_of}
use Rattle.files.specs.declared.baseline.Baseline.{Baseline}
use Rattle.files.specs.declared.contents.Contents.{Contents}
use Rattle.files.specs.Profile.{profile_head, profile_lens, imager_lines, profile_bytes}
use Rattle.files.specs.Table.{table_head, table_row, table_bytes}

-- The spans that are read.
abbrev pub spans_of : Contents → List ℕ
spans_of t = take 64 t.spans.now

-- How many baselines there are.
abbrev pub baselines_of : Contents → ℕ
baselines_of t = length (spans_of t)

-- The span of baseline i.
abbrev pub span_at : Contents → ℕ → ℕ
span_at t i = slice_index (spans_of t) i

-- What is told of baseline i.
abbrev pub baseline_of : Contents → ℕ → Baseline
baseline_of t i = record { number = i; span = span_at t i; entry = entry_of t.record.now i }

-- The rectification table, its head and its rows.
abbrev pub table_head_of : Contents → List ℕ
table_head_of t = table_head t.survey t.issue (baselines_of t)

abbrev pub table_row_of : Contents → ℕ → List ℕ
table_row_of t i = table_row i (ends_of t.record.now i) (span_at t i) (doubt_of t.record.now i)

abbrev pub table_of : Contents → List ℕ
table_of t = table_bytes t.survey t.issue (spans_of t) (ends_of t.record.now) (doubt_of t.record.now)

-- Whether imager a is at baseline i.
abbrev pub at_of : Contents → ℕ → ℕ → Bool
at_of t a i = stands a (ends_of t.record.now i)

-- The lens profile, its head, the line of imager a for baseline i if it is at it, and all lines of imager a.
abbrev pub profile_head_of : Contents → List ℕ
profile_head_of t = profile_head t.survey t.issue t.imagers

abbrev pub lens_of : Contents → ℕ → ℕ → List ℕ
lens_of t a i = cond (at_of t a i) (profile_lens a i (span_at t i)) []

abbrev pub imager_of : Contents → ℕ → List ℕ
imager_of t a = imager_lines (spans_of t) (ends_of t.record.now) a

abbrev pub profile_of : Contents → List ℕ
profile_of t = profile_bytes t.survey t.issue t.imagers (spans_of t) (ends_of t.record.now)

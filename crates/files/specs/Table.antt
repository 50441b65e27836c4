-- The rectification table.
use Rattle.std.specs.Prelude.{ℕ, Bool, List, [], ◌∷◌, ◌++◌, length, codes, decimal, slice_index}
use Rattle.theory.specs.Layout.{Ends}
use Rattle.files.specs.Each.{each}
use Rattle.files.specs.Forms.{span_text, mark_text}
use Rattle.files.specs.Line.{line}

-- T,survey,issue,baselines
abbrev pub table_head : ℕ → ℕ → ℕ → List ℕ
table_head survey issue baselines = line (codes "T" ∷ decimal survey ∷ decimal issue ∷ decimal baselines ∷ [])

-- R,baseline,lower,higher,span,mark
abbrev pub table_row : ℕ → Ends → ℕ → Bool → List ℕ
table_row i ends span doubtful =
    line (codes "R" ∷ decimal i ∷ decimal ends.0 ∷ decimal ends.1 ∷ span_text span ∷ mark_text doubtful ∷ [])

-- The table of a survey's issue: its head, and a row for each baseline, rising.
abbrev pub table_bytes : ℕ → ℕ → List ℕ → (ℕ → Ends) → (ℕ → Bool) → List ℕ
table_bytes survey issue spans ends doubtful =
    table_head survey issue (length spans)
    ++ each (λ i. table_row i (ends i) (slice_index spans i) (doubtful i)) (length spans)

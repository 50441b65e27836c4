-- The lens profile.
use Rattle.std.specs.Prelude.{ℕ, List, [], ◌∷◌, ◌++◌, length, codes, decimal, slice_index}
use Rattle.std.specs.List.{flat_map}
use Rattle.theory.specs.Layout.{Ends}
use Rattle.theory.specs.Numbers.{baselines_at}
use Rattle.files.specs.Each.{each}
use Rattle.files.specs.Forms.{span_text}
use Rattle.files.specs.Line.{line}

-- P,survey,issue,imagers
abbrev pub profile_head : ℕ → ℕ → ℕ → List ℕ
profile_head survey issue imagers = line (codes "P" ∷ decimal survey ∷ decimal issue ∷ decimal imagers ∷ [])

-- L,imager,baseline,span
abbrev pub profile_lens : ℕ → ℕ → ℕ → List ℕ
profile_lens a i span = line (codes "L" ∷ decimal a ∷ decimal i ∷ span_text span ∷ [])

-- The lines of imager a: one for each of its baselines, rising.
abbrev pub imager_lines : List ℕ → (ℕ → Ends) → ℕ → List ℕ
imager_lines spans ends a = flat_map (λ i. profile_lens a i (slice_index spans i)) (baselines_at (length spans) ends a)

-- The profile of a survey's issue: its head, and the lines of each imager, rising.
abbrev pub profile_bytes : ℕ → ℕ → ℕ → List ℕ → (ℕ → Ends) → List ℕ
profile_bytes survey issue imagers spans ends =
    profile_head survey issue imagers ++ each (imager_lines spans ends) imagers

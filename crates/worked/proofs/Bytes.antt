-- The files of the rig are those that the definitions give.
use Rattle.std.proofs.Common.{◌≡◌, ℕ, false, List, [], ◌∷◌, ◌++◌, get_or, codes, decimal, ap, ◌∙◌, ap₂, append_assoc}
use Rattle.std.specs.Fmt.{digits}
use Rattle.files.specs.Each.{each}
use Rattle.files.specs.Line.{line}
use Rattle.files.specs.Profile.{imager_lines, profile_bytes}
use Rattle.files.specs.Table.{table_row, table_bytes}
use Rattle.survey.specs.History.{resolved, begun, profiled}
use Rattle.survey.specs.Refusing.{ProfileOf, TableOf}
use Rattle.worked.specs.Deeds.{shared}
use Rattle.worked.specs.Files.{lines, profile_file, table_file}
use Rattle.worked.proofs.Pair.{the_answer}

abbrev spans : List ℕ
spans = 500 ∷ (620 ∷ [])

-- what is told of two baselines
abbrev of_two : {A : Type 0} → A → A → ℕ → A
of_two a b i = get_or (a ∷ (b ∷ [])) i a

-- the profile and the table, whatever text the survey's number has
profile_by : (number : List ℕ) → line (codes "P" ∷ number ∷ decimal 1 ∷ decimal 3 ∷ []) ++ each (imager_lines spans (of_two (0, 1) (0, 2))) 3
    ≡ lines ((codes "P," ++ (number ++ codes ",1,3")) ∷ codes "L,0,0,500" ∷ codes "L,0,1,620" ∷ codes "L,1,0,500" ∷ codes "L,2,1,620" ∷ [])
unfolding line digits
profile_by number = append_assoc (codes "P," ++ (number ++ codes ",1,3")) (10 ∷ []) _

table_by : (number : List ℕ)
    → line (codes "T" ∷ number ∷ decimal 1 ∷ decimal 2 ∷ []) ++ each (λ i. table_row i (of_two (0, 1) (0, 2) i) (of_two 500 620 i) false) 2
    ≡ lines ((codes "T," ++ (number ++ codes ",1,2")) ∷ codes "R,0,0,1,500,C" ∷ codes "R,1,0,2,620,C" ∷ [])
unfolding line digits
table_by number = append_assoc (codes "T," ++ (number ++ codes ",1,2")) (10 ∷ []) _

profile_is : (n : ℕ) → profile_bytes n 1 3 spans (of_two (0, 1) (0, 2)) ≡ profile_file n
unfolding profile_file
profile_is n = profile_by (decimal n)

table_is : (n : ℕ) → table_bytes n 1 spans (of_two (0, 1) (0, 2)) (of_two false false) ≡ table_file n
unfolding table_file
table_is n = table_by (decimal n)

-- the law's files of the rig's first issue
pub the_profile : (n : ℕ) (text : List ℕ) → ProfileOf n (begun ∷ (resolved ∷ shared)) text → text ≡ profile_file n
the_profile n text (imagers, ends, doubtful, solved, is) =
    let a = the_answer solved in
    is
    ∙ ap (λ m. profile_bytes n 1 m spans ends) a.three
    ∙ ap₂ (λ x y. profile_bytes n 1 3 spans (of_two x y)) a.first a.second
    ∙ profile_is n

pub the_table : (n : ℕ) (text : List ℕ) → TableOf n (profiled ∷ (begun ∷ (resolved ∷ shared))) text → text ≡ table_file n
the_table n text (imagers, ends, doubtful, solved, is) =
    let a = the_answer solved in
    is
    ∙ ap₂ (λ x y. table_bytes n 1 spans (of_two x y) (of_two (doubtful 0) (doubtful 1))) a.first a.second
    ∙ ap₂ (λ x y. table_bytes n 1 spans (of_two (0, 1) (0, 2)) (of_two x y)) a.certain_first a.certain_second
    ∙ table_is n

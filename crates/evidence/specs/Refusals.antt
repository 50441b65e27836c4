-- The refusals: their numbers and details, and the first question that is answered no.
use Rattle.std.specs.Prelude.{◌≡◌, ℕ, Bool, cond, not, ◌&&◌, List, [], ◌∷◌, ◌++◌, Some, None, Option, Ok, Err, Result, ◌==◌, nat_lt, codes}
use Rattle.std.specs.Fmt.{decimal}
use Rattle.evidence.specs.declared.refusal.Refusal.{Refusal}
use Rattle.evidence.specs.declared.refusal.Refusal.TheVariants.{ManyBaselines, SquareSize, SquareByte, IssueOpen, NoSpan, Full, PastCount, SameBaseline, ManyPairs, Unresolved, ManyIssues, WrongPaper, NoLayout, NoRoom}

abbrev pub number_of : Refusal → ℕ
number_of ManyBaselines = 6
number_of SquareSize = 7
number_of (SquareByte place) = 8
number_of IssueOpen = 9
number_of NoSpan = 10
number_of Full = 11
number_of PastCount = 12
number_of SameBaseline = 13
number_of ManyPairs = 14
number_of Unresolved = 15
number_of ManyIssues = 16
number_of WrongPaper = 17
number_of (NoLayout baseline) = 18
number_of (NoRoom bytes) = 19

-- A detail that a refusal does not name is 0.
abbrev pub detail_of : Refusal → ℕ
detail_of ManyBaselines = 0
detail_of SquareSize = 0
detail_of (SquareByte place) = place
detail_of IssueOpen = 0
detail_of NoSpan = 0
detail_of Full = 0
detail_of PastCount = 0
detail_of SameBaseline = 0
detail_of ManyPairs = 0
detail_of Unresolved = 0
detail_of ManyIssues = 0
detail_of WrongPaper = 0
detail_of (NoLayout baseline) = baseline
detail_of (NoRoom bytes) = bytes

-- How a refusal is printed.
abbrev pub text_of : Refusal → List ℕ
text_of r = decimal (number_of r) ++ codes ", detail " ++ decimal (detail_of r)

-- A question at the door: whether it is answered yes, and the refusal if not.
abbrev pub Question : Type 0
Question = Bool × Refusal

-- The refusal of the first question that is answered no, if one is.
abbrev pub first_no : List Question → Option Refusal
first_no [] = None
first_no (q ∷ questions) = cond q.0 (first_no questions) (Some q.1)

-- What is asked of two numbers of a pair: are both below the count, and do the two differ?
abbrev pub pair_questions : ℕ → ℕ → ℕ → List Question
pair_questions count i j =
    (nat_lt i count && nat_lt j count, PastCount)
    ∷ ((not (i == j), SameBaseline)
    ∷ [])

-- A call that asks is refused by the first question that is answered no, and by nothing else.
abbrev pub Asked : {A : Type 0} → List Question → Result A Refusal → Type 0
Asked questions (Ok a) = first_no questions ≡ None
Asked questions (Err e) = first_no questions ≡ Some e

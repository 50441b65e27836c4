-- The questions that each call asks, in their order, put to what can be told of the survey.
use Rattle.std.specs.Prelude.{◌≡◌, ℕ, ◌+◌, Bool, List, [], ◌∷◌, ◌++◌, length, Some, None, Ok, Err, Result, nat_le, nat_lt}
use Rattle.evidence.specs.declared.refusal.Refusal.{Refusal}
use Rattle.evidence.specs.declared.refusal.Refusal.TheVariants.{IssueOpen, NoSpan, PastCount, Unresolved, ManyIssues, WrongPaper, NoRoom}
use Rattle.evidence.specs.Refusals.{Question, first_no, pair_questions}
use Rattle.evidence.specs.Changes.{grow_questions, set_questions}
use Rattle.survey.specs.declared.papers.Paper.{Paper}
use Rattle.survey.specs.Views.{View, idle, has_layout}
use Rattle.survey.specs.Papers.{admits}

-- A call that asks answers what it gives, or the refusal of the first question that is answered no, and then all is the same.
abbrev pub Answers : {A : Type 0} → List Question → (A → Type 0) → Type 0 → Result A Refusal → Type 0
Answers questions gives same (Ok a) = (first_no questions ≡ None) × gives a
Answers questions gives same (Err e) = (first_no questions ≡ Some e) × same

abbrev pub enlist_questions : View → ℕ → List Question
enlist_questions v span = (idle v.state, IssueOpen) ∷ (nat_lt 0 span, NoSpan) ∷ grow_questions v.table

-- A share wants the pair `on`, a part does not.
abbrev pub mark_questions : View → ℕ → ℕ → Bool → List Question
mark_questions v i j on = (idle v.state, IssueOpen) ∷ set_questions v.table v.most i j on

abbrev pub resolve_questions : View → List Question
resolve_questions v = (idle v.state, IssueOpen) ∷ []

abbrev pub begin_questions : View → List Question
begin_questions v = (idle v.state, IssueOpen) ∷ (has_layout v.state, Unresolved) ∷ (nat_lt v.begun 9999, ManyIssues) ∷ []

-- Is it the paper of the open issue, and is there room for the text from this place on?
abbrev pub text_questions : Bool → List ℕ → List ℕ → ℕ → List Question
text_questions admitted text old at =
    (admitted, WrongPaper) ∷ (nat_le (at + length text) (length old), NoRoom (length text)) ∷ []

abbrev pub withdraw_questions : View → Paper → List Question
withdraw_questions v p = (admits v p, WrongPaper) ∷ []

-- What is asked about one baseline, and about two.
abbrev pub one_questions : View → ℕ → List Question
one_questions v i = (nat_lt i v.table.count, PastCount) ∷ (has_layout v.state, Unresolved) ∷ []

abbrev pub two_questions : View → ℕ → ℕ → List Question
two_questions v i j = pair_questions v.table.count i j ++ ((has_layout v.state, Unresolved) ∷ [])

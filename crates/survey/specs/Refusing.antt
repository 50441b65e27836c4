-- The questions of each call, put to what was done before it, in the words of the history.
use Rattle.std.specs.Prelude.{◌≡◌, ℕ, ◌+◌, Bool, true, false, not, ◌&&◌, ◌||◌, ◌⊎◌, List, [], ◌∷◌, length, Some, None, Ok, Err, Option, Result, ◌==◌, nat_le, nat_lt}
use Rattle.evidence.specs.declared.refusal.Refusal.{Refusal}
use Rattle.evidence.specs.declared.refusal.Refusal.TheVariants.{IssueOpen, NoSpan, Full, PastCount, SameBaseline, ManyPairs, Unresolved, ManyIssues, WrongPaper, NoLayout, NoRoom}
use Rattle.evidence.specs.Refusals.{Question, first_no}
use Rattle.evidence.specs.Pairs.{pairs}
use Rattle.theory.specs.Layout.{Ends}
use Rattle.theory.specs.Placed.{Solved, Clash}
use Rattle.files.specs.Profile.{profile_bytes}
use Rattle.files.specs.Table.{table_bytes}
use Rattle.survey.specs.declared.slip.Slip.{Slip}
use Rattle.survey.specs.declared.slip.ForProfile.{ForProfile}
use Rattle.survey.specs.declared.slip.ForTable.{ForTable}
use Rattle.survey.specs.declared.papers.Paper.{Paper}
use Rattle.survey.specs.declared.papers.Paper.TheVariants.{Opens, Closes}
use Rattle.survey.specs.History.{Event, Enlist, Share, Part, Resolve, Begin, WriteProfile, WriteTable, Withdraw, AskEnds, AskCommon, AskDoubt, Deed, baselines, enlisted_spans, sharing, table_of, is_resolved, before_resolve, issues, is_open, profiles}

-- The refusal that a call was answered with, if it was; that of a call on a paper comes with the paper.
abbrev pub refusal : {A : Type 0} → Result A Refusal → Option Refusal
refusal (Ok a) = None
refusal (Err e) = Some e

abbrev pub handed : {A P : Type 0} → Result A (P × Refusal) → Option Refusal
handed (Ok a) = None
handed (Err (back, e)) = Some e

-- A paper is right when it has the survey's number and that of the latest issue, the issue is open, and no profile was written
-- since it was begun (an opening paper) or one was (a closing one).
abbrev pub right_opening : ℕ → List Deed → Slip ForProfile → Bool
right_opening n d p = (p.survey == n && p.issue == issues d) && (is_open d && profiles d == 0)

abbrev pub right_closing : ℕ → List Deed → Slip ForTable → Bool
right_closing n d p = (p.survey == n && p.issue == issues d) && (is_open d && not (profiles d == 0))

abbrev pub right : ℕ → List Deed → Paper → Bool
right n d (Opens p) = right_opening n d p
right n d (Closes p) = right_closing n d p

-- The files of an issue: those of the survey's number, the latest issue, the spans that were enlisted, and the layout that the
-- latest accepted resolve found.
abbrev pub ProfileOf : ℕ → List Deed → List ℕ → Type 0
ProfileOf n d text = (imagers : ℕ) × (ends : ℕ → Ends) × (doubtful : ℕ → Bool)
    × Solved (table_of (before_resolve d)) imagers ends doubtful
    × (text ≡ profile_bytes n (issues d) imagers (enlisted_spans d) ends)

abbrev pub TableOf : ℕ → List Deed → List ℕ → Type 0
TableOf n d text = (imagers : ℕ) × (ends : ℕ → Ends) × (doubtful : ℕ → Bool)
    × Solved (table_of (before_resolve d)) imagers ends doubtful
    × (text ≡ table_bytes n (issues d) (enlisted_spans d) ends doubtful)

-- What a call that writes a file asks: is the paper right, and is there room for the file?
abbrev pub asked_of_file : Bool → List ℕ → List ℕ → ℕ → List Question
asked_of_file paper text old at = (paper, WrongPaper) ∷ (nat_le (at + length text) (length old), NoRoom (length text)) ∷ []

-- The answer to an event was a refusal exactly when the questions of its call, put to what was done before, say so.
abbrev pub Refused : ℕ → ℕ → List Deed → Event → Type 0
Refused n most d (Enlist span r) =
    refusal r ≡ first_no ((not (is_open d), IssueOpen) ∷ (nat_lt 0 span, NoSpan) ∷ (nat_lt (baselines d) 64, Full) ∷ [])
Refused n most d (Share i j r) =
    refusal r ≡ first_no (
    (not (is_open d), IssueOpen)
    ∷ (nat_lt i (baselines d) && nat_lt j (baselines d), PastCount)
    ∷ (not (i == j), SameBaseline)
    ∷ (sharing d i j || nat_lt (pairs (table_of d)) most, ManyPairs)
    ∷ [])
Refused n most d (Part i j r) =
    refusal r ≡ first_no (
    (not (is_open d), IssueOpen)
    ∷ (nat_lt i (baselines d) && nat_lt j (baselines d), PastCount)
    ∷ (not (i == j), SameBaseline)
    ∷ [])
Refused n most d (Resolve r) =
    (refusal r ≡ first_no ((not (is_open d), IssueOpen) ∷ []))
    ⊎ ((is_open d ≡ false) × ((i : ℕ) × (refusal r ≡ Some (NoLayout i)) × Clash (table_of d) i))
Refused n most d (Begin r) =
    refusal r ≡ first_no ((not (is_open d), IssueOpen) ∷ (is_resolved d, Unresolved) ∷ (nat_lt (issues d) 9999, ManyIssues) ∷ [])
Refused n most d (WriteProfile p at old new r) =
    (text : List ℕ) × (right_opening n d p ≡ true → ProfileOf n d text)
    × (handed r ≡ first_no (asked_of_file (right_opening n d p) text old at))
Refused n most d (WriteTable p at old new r) =
    (text : List ℕ) × (right_closing n d p ≡ true → TableOf n d text)
    × (handed r ≡ first_no (asked_of_file (right_closing n d p) text old at))
Refused n most d (Withdraw p r) = handed r ≡ first_no ((right n d p, WrongPaper) ∷ [])
Refused n most d (AskEnds i r) = refusal r ≡ first_no ((nat_lt i (baselines d), PastCount) ∷ (is_resolved d, Unresolved) ∷ [])
Refused n most d (AskCommon i j r) =
    refusal r ≡ first_no (
    (nat_lt i (baselines d) && nat_lt j (baselines d), PastCount)
    ∷ (not (i == j), SameBaseline)
    ∷ (is_resolved d, Unresolved)
    ∷ [])
Refused n most d (AskDoubt i r) = refusal r ≡ first_no ((nat_lt i (baselines d), PastCount) ∷ (is_resolved d, Unresolved) ∷ [])

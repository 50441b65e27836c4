-- What the calls about an issue answer and leave.
use Rattle.std.specs.Prelude.{◌≡◌, ℕ, ◌+◌, List, [], length, Some, None, Ok, Err, Result}
use Rattle.std.specs.Option.{option_map_or}
use Rattle.evidence.specs.declared.refusal.Refusal.{Refusal}
use Rattle.evidence.specs.Refusals.{first_no}
use Rattle.theory.specs.Record.{ends_of, doubt_of}
use Rattle.files.specs.Profile.{profile_bytes}
use Rattle.files.specs.Table.{table_bytes}
use Rattle.files.specs.Writing.{splice}
use Rattle.survey.specs.declared.slip.Slip.{Slip}
use Rattle.survey.specs.declared.slip.ForProfile.{ForProfile}
use Rattle.survey.specs.declared.slip.ForTable.{ForTable}
use Rattle.survey.specs.declared.papers.Paper.{Paper}
use Rattle.survey.specs.declared.state.Layout.{Layout}
use Rattle.survey.specs.declared.state.State.{State}
use Rattle.survey.specs.declared.state.State.TheVariants.{Unresolved, Resolved, Begun, Profiled}
use Rattle.survey.specs.Views.{View, layout_of}
use Rattle.survey.specs.Slips.{slip}
use Rattle.survey.specs.Papers.{admits_opening, admits_closing}
use Rattle.survey.specs.Questions.{Answers, begin_questions, text_questions, withdraw_questions}

-- A resolved survey comes to a stage, and has the same layout.
abbrev pub staged : (Layout → State) → State → State
staged stage s = option_map_or stage (layout_of s) Unresolved

abbrev pub with_issue : View → ℕ → (Layout → State) → View
with_issue v begun stage = record {
  number = v.number;
  table = v.table;
  most = v.most;
  spans = v.spans;
  state = staged stage v.state;
  begun = begun;
}

-- The open issue comes to a stage.
abbrev pub at_stage : View → (Layout → State) → View
at_stage v stage = with_issue v v.begun stage

-- The files of the latest issue by a layout.
abbrev pub profile_by : View → Layout → List ℕ
profile_by v l = profile_bytes v.number v.begun l.imagers v.spans (ends_of l.record)

abbrev pub table_by : View → Layout → List ℕ
table_by v l = table_bytes v.number v.begun v.spans (ends_of l.record) (doubt_of l.record)

-- The files of the open issue; there are none without a layout.
abbrev pub profile_text : View → List ℕ
profile_text v = option_map_or (profile_by v) (layout_of v.state) []

abbrev pub table_text : View → List ℕ
table_text v = option_map_or (table_by v) (layout_of v.state) []

-- A begun issue has the next number, and its opening paper is given.
abbrev pub Began : View → Result (Slip ForProfile) Refusal → View → Type 0
Began v r w =
    Answers (begin_questions v) (λ p. (p ≡ slip v.number (v.begun + 1)) × (w ≡ with_issue v (v.begun + 1) Begun)) (w ≡ v) r

-- The profile stands in the buffer from the place on, its length is answered and the closing paper given; or the paper is
-- handed back, and the buffer is as it was.
abbrev pub ProfileWritten : View → Slip ForProfile → ℕ → List ℕ → List ℕ → Result (Slip ForTable × ℕ) (Slip ForProfile × Refusal) → View → Type 0
ProfileWritten v p at old new (Ok (given, n)) w =
    (first_no (text_questions (admits_opening v p) (profile_text v) old at) ≡ None)
    × (given ≡ slip p.survey p.issue)
    × (n ≡ length (profile_text v))
    × (new ≡ splice old at (profile_text v))
    × (w ≡ at_stage v Profiled)
ProfileWritten v p at old new (Err (back, e)) w =
    (first_no (text_questions (admits_opening v p) (profile_text v) old at) ≡ Some e)
    × (back ≡ p)
    × (new ≡ old)
    × (w ≡ v)

-- The table stands in the buffer from the place on, its length is answered and the issue ends; or the paper is handed back,
-- and the buffer is as it was.
abbrev pub TableWritten : View → Slip ForTable → ℕ → List ℕ → List ℕ → Result ℕ (Slip ForTable × Refusal) → View → Type 0
TableWritten v p at old new (Ok n) w =
    (first_no (text_questions (admits_closing v p) (table_text v) old at) ≡ None)
    × (n ≡ length (table_text v))
    × (new ≡ splice old at (table_text v))
    × (w ≡ at_stage v Resolved)
TableWritten v p at old new (Err (back, e)) w =
    (first_no (text_questions (admits_closing v p) (table_text v) old at) ≡ Some e)
    × (back ≡ p)
    × (new ≡ old)
    × (w ≡ v)

-- The issue ends; or the paper is handed back.
abbrev pub Withdrew : View → Paper → Result (Unit {0}) (Paper × Refusal) → View → Type 0
Withdrew v p (Ok done) w = (first_no (withdraw_questions v p) ≡ None) × (w ≡ at_stage v Resolved)
Withdrew v p (Err (back, e)) w = (first_no (withdraw_questions v p) ≡ Some e) × (back ≡ p) × (w ≡ v)

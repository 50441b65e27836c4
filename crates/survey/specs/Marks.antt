-- What enlisting a baseline and marking a pair answer and leave.
use Rattle.std.specs.Prelude.{◌≡◌, ℕ, ◌+◌, Bool, cond, not, [], ◌∷◌, ◌++◌, Result}
use Rattle.std.specs.Bool.{beq}
use Rattle.evidence.specs.declared.refusal.Refusal.{Refusal}
use Rattle.evidence.specs.Table.{Table}
use Rattle.evidence.specs.Changes.{is_pair}
use Rattle.survey.specs.declared.state.State.TheVariants.{Unresolved}
use Rattle.survey.specs.Views.{View}
use Rattle.survey.specs.Questions.{Answers, enlist_questions, mark_questions}

-- A table with one baseline more, which shares with none.
abbrev pub one_more : Table → Table
one_more t = record { count = t.count + 1; shares = t.shares }

-- A table with the state of one pair set.
abbrev pub with_pair : Table → ℕ → ℕ → Bool → Table
with_pair t i j on = record { count = t.count; shares = λ a b. cond (is_pair i j a b) on (t.shares a b) }

-- Another state is wanted of the pair than it has.
abbrev pub changes : Table → ℕ → ℕ → Bool → Bool
changes t i j on = not (beq (t.shares i j) on)

abbrev pub with_baseline : View → ℕ → View
with_baseline v span = record {
  number = v.number;
  table = one_more v.table;
  most = v.most;
  spans = v.spans ++ (span ∷ []);
  state = Unresolved;
  begun = v.begun;
}

-- A change makes a survey unresolved; where nothing changes it stays as it was.
abbrev pub with_mark : View → ℕ → ℕ → Bool → View
with_mark v i j on = record {
  number = v.number;
  table = with_pair v.table i j on;
  most = v.most;
  spans = v.spans;
  state = cond (changes v.table i j on) Unresolved v.state;
  begun = v.begun;
}

-- An enlisted baseline has the count as its number.
abbrev pub Enlisted : View → ℕ → Result ℕ Refusal → View → Type 0
Enlisted v span r w = Answers (enlist_questions v span) (λ n. (n ≡ v.table.count) × (w ≡ with_baseline v span)) (w ≡ v) r

-- A marked pair has the wanted state; the answer tells whether that changed it.
abbrev pub Marked : View → ℕ → ℕ → Bool → Result Bool Refusal → View → Type 0
Marked v i j on r w =
    Answers (mark_questions v i j on) (λ changed. (changed ≡ changes v.table i j on) × (w ≡ with_mark v i j on)) (w ≡ v) r

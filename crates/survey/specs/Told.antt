-- What a resolved survey tells of its baselines.
use Rattle.std.specs.Prelude.{◌≡◌, ℕ, Bool, cond, [], ◌∷◌, Some, None, Option, Result}
use Rattle.std.specs.Borrow.{Bor}
use Rattle.evidence.specs.declared.refusal.Refusal.{Refusal}
use Rattle.evidence.specs.declared.refusal.Refusal.TheVariants.{Unresolved}
use Rattle.theory.specs.declared.record.Record.{Record}
use Rattle.theory.specs.declared.record.Entry.{Entry}
use Rattle.theory.specs.Layout.{Ends, stands}
use Rattle.theory.specs.Record.{entry_of, ends_of, doubt_of}
use Rattle.survey.specs.Views.{View, Keeps, has_layout}
use Rattle.survey.specs.Questions.{Answers, one_questions, two_questions}

-- The imager that two baselines have together.
abbrev pub together : Ends → Ends → Option ℕ
together d e = cond (stands d.0 e) (Some d.0) (cond (stands d.1 e) (Some d.1) None)

-- The record that is kept of the baselines.
abbrev pub RecordTold : View → Result (Bor Record) Refusal → Type 0
RecordTold v r = Answers ((has_layout v.state, Unresolved) ∷ []) (λ told. Keeps v (λ l. told.now ≡ l.record)) (Unit {0}) r

abbrev pub EntryTold : View → ℕ → Result Entry Refusal → Type 0
EntryTold v i r = Answers (one_questions v i) (λ entry. Keeps v (λ l. entry ≡ entry_of l.record i)) (Unit {0}) r

abbrev pub EndsTold : View → ℕ → Result Ends Refusal → Type 0
EndsTold v i r = Answers (one_questions v i) (λ ends. Keeps v (λ l. ends ≡ ends_of l.record i)) (Unit {0}) r

abbrev pub CommonTold : View → ℕ → ℕ → Result (Option ℕ) Refusal → Type 0
CommonTold v i j r =
    Answers (two_questions v i j) (λ o. Keeps v (λ l. o ≡ together (ends_of l.record i) (ends_of l.record j))) (Unit {0}) r

abbrev pub DoubtTold : View → ℕ → Result Bool Refusal → Type 0
DoubtTold v i r = Answers (one_questions v i) (λ doubt. Keeps v (λ l. doubt ≡ doubt_of l.record i)) (Unit {0}) r

-- What serving a line answers, and what the survey and the reply buffer hold afterwards.
use Rattle.std.specs.Prelude.{◌≡◌, ℕ, ◌<◌, ◌≤◌, List, [], ◌++◌, length, Ok, Err, Result}
use Rattle.evidence.specs.declared.evidence.Evidence.{Ghosts as EvidenceGhosts}
use Rattle.evidence.specs.declared.ledger.Ledger.{Ghosts as LedgerGhosts}
use Rattle.evidence.specs.declared.refusal.Refusal.{Refusal}
use Rattle.files.specs.Writing.{splice}
use Rattle.survey.specs.declared.survey.Survey.{Survey as SurveyOver}
use Rattle.survey.specs.Views.{View, view}
use Rattle.survey.specs.History.{Event}
use Rattle.survey.specs.Runs.{Run}
use Rattle.lines.specs.declared.request.Request.{Request}
use Rattle.lines.specs.declared.fault.Fault.{Fault}
use Rattle.lines.specs.declared.fault.Fault.TheVariants.{Text, Survey}
use Rattle.lines.specs.declared.fault.TextFault.{TextFault}
use Rattle.lines.specs.declared.fault.TextFault.TheVariants.{ShortReply}
use Rattle.lines.specs.Requests.{Reads}
use Rattle.lines.specs.Replies.{reply_text}
use Rattle.lines.specs.Serving.{Serves}

-- A text that is answered stands at the start of the buffer, its length is told, and no other byte is touched;
-- where there is a refusal the buffer is as it was.
abbrev pub Put : {E : Type 0} → Result (List ℕ) E → List ℕ → List ℕ → Result ℕ E → Type 0
Put (Ok text) old new (Ok n) = (n ≡ length text) × (new ≡ splice old 0 text)
Put (Ok text) old new (Err f) = ⊥
Put (Err e) old new (Ok n) = ⊥
Put (Err e) old new (Err f) = (f ≡ e) × (new ≡ old)

-- A refusal of the survey is carried whole.
abbrev pub carried : Result (List ℕ) Refusal → Result (List ℕ) Fault
carried (Ok text) = Ok text
carried (Err refusal) = Err (Survey refusal)

-- What is answered to what was read: the request is served; or the text is refused, and no call is made.
abbrev pub Answers : View → Result Request TextFault → List Event → Result (List ℕ) Fault → View → Type 0
Answers v (Ok request) made a w = (b : Result (List ℕ) Refusal) × Serves v request made b w × (a ≡ carried b)
Answers v (Err fault) made a w = (made ≡ []) × (a ≡ Err (Text fault)) × (w ≡ v)

-- What is answered to the bytes of a line.
abbrev pub AnswersLine : View → List ℕ → List Event → Result (List ℕ) Fault → View → Type 0
AnswersLine v bytes made a w = (read : Result Request TextFault) × Reads bytes read × Answers v read made a w

-- What a line of this number answers: the reply's length, and the reply stands at the start of the buffer, all other bytes
-- being as they were; or, where the buffer has fewer than 4,096 bytes, that it is short, and nothing is done.
abbrev pub Replies : View → List ℕ → ℕ → List ℕ → List ℕ → Result ℕ Fault → List Event → View → Type 0
Replies v bytes number old new (Ok n) made w =
    (4096 ≤ length old)
    × ((a : Result (List ℕ) Fault) × AnswersLine v bytes made a w
    × (n ≡ length (reply_text number a)) × (new ≡ splice old 0 (reply_text number a)))
Replies v bytes number old new (Err fault) made w =
    (length old < 4096) × (fault ≡ Text ShortReply) × (new ≡ old) × (made ≡ []) × (w ≡ v)

module _ {L : Type 0} (e : EvidenceGhosts L) (g : LedgerGhosts L) where
  -- Any run to the one survey goes on by these calls, the newest first, to the other.
  abbrev pub GoesOn : SurveyOver L g e → List Event → SurveyOver L g e → Type 0
  GoesOn s made t = (start : SurveyOver L g e) (h : List Event) → Run e g start h s → Run e g start (made ++ h) t

  -- A request was served.
  abbrev pub Served : SurveyOver L g e → Request → List ℕ → List ℕ → Result ℕ Refusal → SurveyOver L g e → Type 0
  Served s request old new r t =
      (made : List Event) × (a : Result (List ℕ) Refusal)
      × Serves (view e g s) request made a (view e g t) × Put a old new r × GoesOn s made t

  -- The bytes of a line were answered.
  abbrev pub Answered : SurveyOver L g e → List ℕ → List ℕ → List ℕ → Result ℕ Fault → SurveyOver L g e → Type 0
  Answered s bytes old new r t =
      (made : List Event) × (a : Result (List ℕ) Fault)
      × AnswersLine (view e g s) bytes made a (view e g t) × Put a old new r × GoesOn s made t

  -- A line was replied to: what was answered, and the calls that were made extend any run.
  abbrev pub Lined : SurveyOver L g e → List ℕ → ℕ → List ℕ → List ℕ → Result ℕ Fault → SurveyOver L g e → Type 0
  Lined s bytes number old new r t =
      (made : List Event) × Replies (view e g s) bytes number old new r made (view e g t) × GoesOn s made t

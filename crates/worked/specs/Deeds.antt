-- What the calls answer and do.
use Rattle.std.specs.Prelude.{◌≡◌, ℕ, true, false, List, [], ◌∷◌, Some, Ok, Err}
use Rattle.evidence.specs.declared.evidence.Evidence.{Ghosts as EvidenceGhosts}
use Rattle.evidence.specs.declared.ledger.Ledger.{Ghosts as LedgerGhosts}
use Rattle.evidence.specs.declared.refusal.Refusal.TheVariants.{Unresolved}
use Rattle.survey.specs.declared.survey.Survey.{Survey}
use Rattle.survey.specs.History.{Deed, enlisted, marked, resolved}
use Rattle.worked.specs.declared.answers.Marks.{Marks}
use Rattle.worked.specs.declared.answers.Tellings.{Tellings}
use Rattle.worked.specs.After.{After}

-- The baselines are numbered 0 and 1; sharing them changes the pair, and doing so again does not.
abbrev pub the_marks : Marks
the_marks = record { first = Ok 0; second = Ok 1; shared = Ok true; again = Ok false }

-- The ends are not told before the survey is resolved. There are three imagers, of which both baselines have the first, and
-- nothing is doubtful.
abbrev pub the_tellings : Tellings
the_tellings = record {
  early = Err Unresolved;
  resolved = Ok (record { imagers = 3; doubtful = 0 });
  first = Ok (0, 1);
  second = Ok (0, 2);
  common = Ok (Some 0);
  doubtful = Ok false;
}

-- Two baselines are enlisted and share.
abbrev pub shared : List Deed
shared = marked 1 0 true false ∷ (marked 0 1 true true ∷ (enlisted 620 ∷ (enlisted 500 ∷ [])))

module _ {L : Type 0} (e : EvidenceGhosts L) (g : LedgerGhosts L) where
  -- Of a survey in which nothing was done yet, the marks are as told.
  abbrev pub MarksRight : Survey L g e → Marks → Survey L g e → Type 0
  MarksRight s r t = (n : ℕ) → After e g n [] s → (r ≡ the_marks) × After e g n shared t

  -- Of a survey of two baselines that share, the tellings are as told.
  abbrev pub TellingsRight : Survey L g e → Tellings → Survey L g e → Type 0
  TellingsRight s r t = (n : ℕ) → After e g n shared s → (r ≡ the_tellings) × After e g n (resolved ∷ shared) t

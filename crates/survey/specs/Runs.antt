-- Runs: the surveys that calls lead to, each step being exactly what the call's contract says.
use Rattle.std.specs.Prelude.{◌≡◌, true, false, List, [], ◌∷◌}
use Rattle.evidence.specs.declared.evidence.Evidence.{Ghosts as EvidenceGhosts}
use Rattle.evidence.specs.declared.ledger.Ledger.{Ghosts as LedgerGhosts}
use Rattle.survey.specs.declared.survey.Survey.{Survey}
use Rattle.survey.specs.Views.{View, view}
use Rattle.survey.specs.Marks.{Enlisted, Marked}
use Rattle.survey.specs.Issues.{Began, ProfileWritten, TableWritten, Withdrew}
use Rattle.survey.specs.Told.{EndsTold, CommonTold, DoubtTold}
use Rattle.survey.specs.Resolves.{Resolved}
use Rattle.survey.specs.History.{Event, Enlist, Share, Part, Resolve, Begin, WriteProfile, WriteTable, Withdraw, AskEnds, AskCommon, AskDoubt}

-- What an event's call makes of the view before it.
abbrev pub Step : View → Event → View → Type 0
Step v (Enlist span r) w = Enlisted v span r w
Step v (Share i j r) w = Marked v i j true r w
Step v (Part i j r) w = Marked v i j false r w
Step v (Resolve r) w = Resolved v r w
Step v (Begin r) w = Began v r w
Step v (WriteProfile p at old new r) w = ProfileWritten v p at old new r w
Step v (WriteTable p at old new r) w = TableWritten v p at old new r w
Step v (Withdraw p r) w = Withdrew v p r w
Step v (AskEnds i r) w = EndsTold v i r × (w ≡ v)
Step v (AskCommon i j r) w = CommonTold v i j r × (w ≡ v)
Step v (AskDoubt i r) w = DoubtTold v i r × (w ≡ v)

module _ {L : Type 0} (e : EvidenceGhosts L) (g : LedgerGhosts L) where
  -- A call leads from the one survey to the other: what the contract of each call says.
  abbrev pub Leads : Survey L g e → Event → Survey L g e → Type 0
  Leads s x t = Step (view e g s) x (view e g t)

  pub data Run (start : Survey L g e) : List Event → Survey L g e → Type 0 where
    opened : Run start [] start
    step : {h : List Event} {s : Survey L g e} (t : Survey L g e) (x : Event) → Run start h s → Leads s x t → Run start (x ∷ h) t

  -- Any run to the one survey goes on by the event to the other.
  abbrev pub Extends : Survey L g e → Event → Survey L g e → Type 0
  Extends s x t = (start : Survey L g e) (h : List Event) → Run start h s → Run start (x ∷ h) t

  -- So it does by every call.
  pub extends : (s t : Survey L g e) (x : Event) → Leads s x t → Extends s x t
  extends s t x leads start h run = step t x run leads

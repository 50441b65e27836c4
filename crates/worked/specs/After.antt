-- A survey that a lawful run led to.
use Rattle.std.specs.Prelude.{◌≡◌, ℕ, ◌≤◌, List}
use Rattle.evidence.specs.declared.evidence.Evidence.{Ghosts as EvidenceGhosts}
use Rattle.evidence.specs.declared.ledger.Ledger.{Ghosts as LedgerGhosts}
use Rattle.survey.specs.declared.survey.Survey.{Survey}
use Rattle.survey.specs.History.{Event, Deed, accepted}
use Rattle.survey.specs.Runs.{Run}
use Rattle.survey.specs.Law.{Lawful}

-- A run led to the survey from one that keeps the law, and its accepted calls did these deeds, the newest first. The survey
-- has the number n, and its ledger has room for a sharing pair.
pub record After {L : Type 0} (e : EvidenceGhosts L) (g : LedgerGhosts L) (n : ℕ) (deeds : List Deed) (s : Survey L g e) : Type 0 where
  pub most : ℕ
  pub room : 1 ≤ most
  pub start : Survey L g e
  pub history : List Event
  pub lawful : Lawful e g n most start
  pub run : Run e g start history s
  pub did : accepted history ≡ deeds

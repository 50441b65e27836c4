-- What an issue of the two files asks of the survey, and that it goes as told.
use Rattle.std.specs.Prelude.{◌≡◌, ℕ, true, false, List, ◌∷◌, Result}
use Rattle.evidence.specs.declared.evidence.Evidence.{Ghosts as EvidenceGhosts}
use Rattle.evidence.specs.declared.ledger.Ledger.{Ghosts as LedgerGhosts}
use Rattle.evidence.specs.declared.refusal.Refusal.{Refusal}
use Rattle.survey.specs.declared.papers.Paper.{Paper}
use Rattle.survey.specs.declared.survey.Survey.{Survey}
use Rattle.survey.specs.History.{Deed, resolved, is_open}
use Rattle.survey.specs.Refusing.{right}
use Rattle.worked.specs.declared.answers.Lengths.{Lengths}
use Rattle.worked.specs.After.{After}
use Rattle.worked.specs.Deeds.{shared}
use Rattle.worked.specs.Files.{Issued}

module _ {L : Type 0} (e : EvidenceGhosts L) (g : LedgerGhosts L) where
  -- A lawful run led to the survey of the two baselines, which is resolved.
  abbrev pub Ready : Survey L g e → Type 0
  Ready s = (n : ℕ) × After e g n (resolved ∷ shared) s

  -- A lawful run led to the survey, and the paper is that of its open issue.
  abbrev pub Rightful : Survey L g e → Paper → Type 0
  Rightful s p = (n : ℕ) × (d : List Deed) × After e g n d s × (right n d p ≡ true)

  -- A lawful run led to the survey, and no issue of it is open.
  abbrev pub Over : ℕ → Survey L g e → Type 0
  Over n s = (d : List Deed) × After e g n d s × (is_open d ≡ false)

  -- After a withdrawal no issue is open.
  abbrev pub WithdrawRight : Survey L g e → Survey L g e → Type 0
  WithdrawRight s t = (n : ℕ) (d : List Deed) → After e g n d s → Over n t

  -- Of the survey of the two baselines, the files are written as told, and then no issue is open.
  abbrev pub IssueRight : Survey L g e → List ℕ → List ℕ → Result Lengths Refusal → Survey L g e → Type 0
  IssueRight s old new r t = (n : ℕ) → After e g n (resolved ∷ shared) s → Issued n old new r × Over n t

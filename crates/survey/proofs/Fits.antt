-- How long the files of a survey are.
use Rattle.std.proofs.Common.{ℕ, ◌+◌, ◌≤◌, length, arith}
use Rattle.evidence.specs.declared.evidence.Evidence.{Ghosts as EvidenceGhosts}
use Rattle.evidence.specs.declared.ledger.Ledger.{Ghosts as LedgerGhosts}
use Rattle.evidence.specs.Table.{Sound}
use Rattle.theory.specs.Record.{ends_of, doubt_of}
use Rattle.files.proofs.Sizes.{bytes_fit}
use Rattle.survey.specs.declared.survey.Survey.{Survey}
use Rattle.survey.specs.declared.state.Layout.{Layout}
use Rattle.survey.specs.declared.state.State.{State}
use Rattle.survey.specs.declared.state.State.TheVariants.{Unresolved, Resolved, Begun, Profiled}
use Rattle.survey.specs.Views.{view, with_state}
use Rattle.survey.specs.Issues.{with_issue, profile_by, table_by, profile_text, table_text}

-- both files of an issue that is begun have room in 4,096 bytes
fit : {L : Type 0} (e : EvidenceGhosts L) (g : LedgerGhosts L) (s : Survey L g e) (issue : ℕ) (l : Layout) → issue ≤ 9999 → Sound (e.meaning s.ledger)
    → let v = with_issue (view e g s) issue Begun in length (profile_by v l) + length (table_by v l) ≤ 4096
fit e g s issue l b sound =
    let few : length s.spans.items ≤ 64 = omega (arith, sound.few, s.spanned) in
    omega (
      arith,
      bytes_fit s.number issue l.imagers s.spans.items (ends_of l.record) (doubt_of l.record)
          s.small b l.few few (λ i _. s.lengths i) (λ i _. l.chips i),
    )

pub both_fit : {L : Type 0} (e : EvidenceGhosts L) (g : LedgerGhosts L) (s : Survey L g e) (issue : ℕ) (state : State) → issue ≤ 9999 → Sound (e.meaning s.ledger)
    → let v = with_state (with_issue (view e g s) issue Begun) state in length (profile_text v) + length (table_text v) ≤ 4096
both_fit e g s issue Unresolved b sound = omega arith
both_fit e g s issue (Resolved l) b sound = fit e g s issue l b sound
both_fit e g s issue (Begun l) b sound = fit e g s issue l b sound
both_fit e g s issue (Profiled l) b sound = fit e g s issue l b sound

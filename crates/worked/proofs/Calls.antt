-- One call after a lawful run: what it answers, by the law.
use Rattle.std.proofs.Common.{◌≡◌, ℕ, ◌≤◌, List, [], ◌∷◌, length, IfOk, Some, None, Ok, Err, Result, refl, ap, subst, arith}
use Rattle.evidence.specs.declared.evidence.Evidence.{Ghosts as EvidenceGhosts}
use Rattle.evidence.specs.declared.ledger.Ledger.{Ghosts as LedgerGhosts}
use Rattle.evidence.specs.declared.refusal.Refusal.{Refusal}
use Rattle.files.specs.Writing.{splice}
use Rattle.survey.specs.declared.slip.Slip.{Slip}
use Rattle.survey.specs.declared.slip.ForProfile.{ForProfile}
use Rattle.survey.specs.declared.slip.ForTable.{ForTable}
use Rattle.survey.specs.declared.survey.Survey.{Survey}
use Rattle.survey.specs.History.{Event, WriteProfile, WriteTable, Deed, noted}
use Rattle.survey.specs.Runs.{opened, step, Leads}
use Rattle.survey.specs.Refusing.{Refused, ProfileOf, TableOf, refusal}
use Rattle.survey.specs.Answering.{Answered}
use Rattle.survey.specs.Law.{Lawful}
use Rattle.worked.specs.After.{After}

-- a call that was not refused answered the value that it owes
pub answer : {A : Type 0} (r : Result A Refusal) (v : A) → refusal r ≡ None → IfOk r (λ a. a ≡ v) → r ≡ Ok v
answer (Ok a) v q e = ap Ok e
answer (Err x) v q e = let z : ◌≡◌ {A = ℕ} 0 1 = cc in absurd (omega arith)

-- a call that was refused
pub refuses : {A : Type 0} (r : Result A Refusal) (e : Refusal) → refusal r ≡ Some e → r ≡ Err e
refuses (Ok a) e q = let z : ◌≡◌ {A = ℕ} 0 1 = cc in absurd (omega arith)
refuses (Err x) e q = let same : x ≡ e = cc in ap Err same

module _ {L : Type 0} (e : EvidenceGhosts L) (g : LedgerGhosts L) (n : ℕ) where
  -- nothing is done in a survey that is just opened
  pub first : (most : ℕ) (s : Survey L g e) → 1 ≤ most → Lawful e g n most s → After e g n [] s
  first most s room lawful = record { most = most; room = room; start = s; history = []; lawful = lawful; run = opened; did = refl }

  -- What the law says of one call more.
  pub record Next (most : ℕ) (d : List Deed) (x : Event) (t : Survey L g e) : Type 0 where
    pub refused : Refused n most d x
    pub answered : Answered n d x
    pub after : After e g n (noted x d) t

  module _ (d : List Deed) (s t : Survey L g e) (a : After e g n d s) where
    pub next : (x : Event) → Leads e g s x t → Next a.most d x t
    next x goes =
        let run = step t x a.run goes in
        let law = a.lawful (x ∷ a.history) t run in
        record {
          refused = subst (λ k. Refused n a.most k x) a.did (law.refused x a.history ([], refl));
          answered = subst (λ k. Answered n k x) a.did (law.answered x a.history ([], refl));
          after = record {
            most = a.most;
            room = a.room;
            start = a.start;
            history = x ∷ a.history;
            lawful = a.lawful;
            run = run;
            did = ap (noted x) a.did;
          };
        }

    -- an accepted profile or table left its bytes
    pub profile_left : (p : Slip ForProfile) (at k : ℕ) (old new : List ℕ) (given : Slip ForTable) → Leads e g s (WriteProfile p at old new (Ok (given, k))) t
        → (text : List ℕ) × ProfileOf n d text × (k ≡ length text) × (new ≡ splice old at text)
    profile_left p at k old new given goes =
        subst (λ x. (text : List ℕ) × ProfileOf n x text × (k ≡ length text) × (new ≡ splice old at text)) a.did (
        (a.lawful _ t (step t _ a.run goes)).profiles_written p at k old new given a.history ([], refl)
        )

    pub table_left : (p : Slip ForTable) (at k : ℕ) (old new : List ℕ) → Leads e g s (WriteTable p at old new (Ok k)) t
        → (text : List ℕ) × TableOf n d text × (k ≡ length text) × (new ≡ splice old at text)
    table_left p at k old new goes =
        subst (λ x. (text : List ℕ) × TableOf n x text × (k ≡ length text) × (new ≡ splice old at text)) a.did (
        (a.lawful _ t (step t _ a.run goes)).tables_written p at k old new a.history ([], refl)
        )

    -- a call whose questions are all answered yes, and the value that it owes
    pub accepts : {A : Type 0} (call : Result A Refusal → Event) (r : Result A Refusal) (v : A) → Leads e g s (call r) t
        → (Refused n a.most d (call r) → refusal r ≡ None)
        → (Answered n d (call r) → IfOk r (λ b. b ≡ v))
        → (r ≡ Ok v) × After e g n (noted (call (Ok v)) d) t
    accepts call r v goes asked owed =
        let k = next (call r) goes in
        let is = answer r v (asked k.refused) (owed k.answered) in
        (is, subst (λ x. After e g n (noted (call x) d) t) is k.after)

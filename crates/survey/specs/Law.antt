-- The law of every run, in the words of its history.
use Rattle.std.specs.Prelude.{◌≡◌, ℕ, ◌<◌, true, false, ◌↔◌, List, ◌∷◌, ◌++◌, length, Ok, Err, Result}
use Rattle.evidence.specs.declared.evidence.Evidence.{Ghosts as EvidenceGhosts}
use Rattle.evidence.specs.declared.ledger.Ledger.{Ghosts as LedgerGhosts}
use Rattle.evidence.specs.declared.refusal.Refusal.{Refusal}
use Rattle.evidence.specs.declared.refusal.Refusal.TheVariants.{NoLayout}
use Rattle.theory.specs.Layout.{Ends, Layout}
use Rattle.theory.specs.Clusters.{Doubtful}
use Rattle.theory.specs.Placed.{Clash}
use Rattle.theory.specs.Record.{doubt_of}
use Rattle.files.specs.Writing.{splice}
use Rattle.survey.specs.declared.slip.Slip.{Slip}
use Rattle.survey.specs.declared.slip.ForProfile.{ForProfile}
use Rattle.survey.specs.declared.slip.ForTable.{ForTable}
use Rattle.survey.specs.declared.survey.Resolution.{Resolution}
use Rattle.survey.specs.declared.survey.Survey.{Survey}
use Rattle.survey.specs.Views.{view, Keeps}
use Rattle.survey.specs.Resolves.{Solves}
use Rattle.survey.specs.History.{Event, Resolve, WriteProfile, WriteTable, accepted, baselines, sharing, table_of, is_resolved, is_open, profiles}
use Rattle.survey.specs.Runs.{Run}
use Rattle.survey.specs.Refusing.{ProfileOf, TableOf, Refused}
use Rattle.survey.specs.Answering.{Answered}

-- x is an event of the history, and `older` what came before it.
abbrev pub Within : List Event → Event → List Event → Type 0
Within h x older = (newer : List Event) × (h ≡ newer ++ (x ∷ older))

module _ {L : Type 0} (e : EvidenceGhosts L) (g : LedgerGhosts L) (n most : ℕ) where
  pub record Law (h : List Event) (t : Survey L g e) : Type 0 where
    -- Each call was refused exactly as the history before it says.
    pub refused : (x : Event) (older : List Event) → Within h x older → Refused n most (accepted older) x
    -- Each accepted call answered what the history before it says.
    pub answered : (x : Event) (older : List Event) → Within h x older → Answered n (accepted older) x
    -- The ledger shares exactly as the latest accepted share or part of each pair says.
    pub shared : (i j : ℕ) → (e.meaning t.ledger).shares i j ≡ sharing (accepted h) i j
    -- With no issue open, a resolve is refused for a clash exactly when the table has no layout, and with the lowest
    -- baseline whose cluster has none.
    pub clash : (r : Result Resolution Refusal) (older : List Event) → Within h (Resolve r) older → is_open (accepted older) ≡ false
        → (((i : ℕ) × (r ≡ Err (NoLayout i))) ↔ (((f : ℕ → Ends) × Layout (table_of (accepted older)) f) → ⊥))
        × ((i : ℕ) → r ≡ Err (NoLayout i) → Clash (table_of (accepted older)) i)
    -- While the history is resolved, the ends kept are those of the chosen, numbered layout of its table,
    pub layout : is_resolved (accepted h) ≡ true → Keeps (view e g t) (Solves (table_of (accepted h)))
    -- and a baseline is kept as doubtful exactly when it is.
    pub doubt : is_resolved (accepted h) ≡ true → (i : ℕ) → i < baselines (accepted h)
        → Keeps (view e g t) (λ l. (doubt_of l.record i ≡ true) ↔ Doubtful (table_of (accepted h)) i)
    -- Between an accepted table and its begin lies exactly one accepted profile.
    pub order : (p : Slip ForTable) (at k : ℕ) (old new : List ℕ) (older : List Event) → Within h (WriteTable p at old new (Ok k)) older
        → (is_open (accepted older) ≡ true) × (profiles (accepted older) ≡ 1)
    -- An accepted profile or table left its bytes in the buffer from the place on, as many as answered, and changed no other.
    pub profiles_written : (p : Slip ForProfile) (at k : ℕ) (old new : List ℕ) (given : Slip ForTable) (older : List Event)
        → Within h (WriteProfile p at old new (Ok (given, k))) older
        → (text : List ℕ) × ProfileOf n (accepted older) text × (k ≡ length text) × (new ≡ splice old at text)
    pub tables_written : (p : Slip ForTable) (at k : ℕ) (old new : List ℕ) (older : List Event)
        → Within h (WriteTable p at old new (Ok k)) older
        → (text : List ℕ) × TableOf n (accepted older) text × (k ≡ length text) × (new ≡ splice old at text)

  -- Every run from a survey keeps the law.
  abbrev pub Lawful : Survey L g e → Type 0
  Lawful s = (h : List Event) (t : Survey L g e) → Run e g s h t → Law h t

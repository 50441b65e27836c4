-- What can be told of a survey, whatever its ledger.
use Rattle.std.specs.Prelude.{◌≡◌, ℕ, Bool, true, false, List, [], Some, None, Option, is_some, IsSomeAnd}
use Rattle.evidence.specs.Table.{Table}
use Rattle.evidence.specs.declared.evidence.Evidence.{Ghosts as EvidenceGhosts}
use Rattle.evidence.specs.declared.ledger.Ledger.{Ghosts as LedgerGhosts}
use Rattle.survey.specs.declared.stage.Stage.{Stage}
use Rattle.survey.specs.declared.stage.Stage.TheVariants as stage
use Rattle.survey.specs.declared.state.Layout.{Layout}
use Rattle.survey.specs.declared.state.State.{State}
use Rattle.survey.specs.declared.state.State.TheVariants.{Unresolved, Resolved, Begun, Profiled}
use Rattle.survey.specs.declared.survey.Survey.{Survey}

-- The number of the survey, the table of its ledger and how many sharing pairs that has room for, the span of each baseline,
-- how far it has come, and how many issues were begun.
pub record View : Type 0 where
  pub number : ℕ
  pub table : Table
  pub most : ℕ
  pub spans : List ℕ
  pub state : State
  pub begun : ℕ

module _ {L : Type 0} (e : EvidenceGhosts L) (g : LedgerGhosts L) where
  abbrev pub view : Survey L g e → View
  view s = record {
    number = s.number;
    table = e.meaning s.ledger;
    most = g.most s.ledger;
    spans = s.spans.items;
    state = s.state;
    begun = s.begun;
  }

-- Another state, and all else as it was.
abbrev pub with_state : View → State → View
with_state v state = record { number = v.number; table = v.table; most = v.most; spans = v.spans; state = state; begun = v.begun }

-- The layout that a resolved survey has.
abbrev pub layout_of : State → Option Layout
layout_of Unresolved = None
layout_of (Resolved l) = Some l
layout_of (Begun l) = Some l
layout_of (Profiled l) = Some l

-- The survey is resolved.
abbrev pub has_layout : State → Bool
has_layout s = is_some (layout_of s)

-- The survey keeps a layout, and it is such.
abbrev pub Keeps : View → (Layout → Type 0) → Type 0
Keeps v says = IsSomeAnd (layout_of v.state) says

-- How far the open issue has come.
abbrev pub stage_of : State → Stage
stage_of Unresolved = stage.Idle
stage_of (Resolved l) = stage.Idle
stage_of (Begun l) = stage.Begun
stage_of (Profiled l) = stage.Profiled

-- No issue is open.
abbrev pub idle : State → Bool
idle Unresolved = true
idle (Resolved l) = true
idle (Begun l) = false
idle (Profiled l) = false

-- The open issue waits for its profile.
abbrev pub awaits_profile : State → Bool
awaits_profile Unresolved = false
awaits_profile (Resolved l) = false
awaits_profile (Begun l) = true
awaits_profile (Profiled l) = false

-- The open issue waits for its table.
abbrev pub awaits_table : State → Bool
awaits_table Unresolved = false
awaits_table (Resolved l) = false
awaits_table (Begun l) = false
awaits_table (Profiled l) = true

-- A survey that is just opened: no baselines, unresolved, no issue begun.
pub record Fresh (number most : ℕ) (v : View) : Type 0 where
  pub numbered : v.number ≡ number
  pub baselines : v.table.count ≡ 0
  pub room : v.most ≡ most
  pub spans : v.spans ≡ []
  pub unresolved : v.state ≡ Unresolved
  pub begun : v.begun ≡ 0

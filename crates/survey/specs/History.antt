-- A history: the calls on a survey with what they were given and what they answered, the newest first;
-- and what a history says by itself.
use Rattle.std.specs.Prelude.{ℕ, ◌+◌, Bool, true, false, cond, List, [], ◌∷◌, ◌++◌, Ok, Err, Option, Result}
use Rattle.evidence.specs.declared.refusal.Refusal.{Refusal}
use Rattle.evidence.specs.Table.{Table}
use Rattle.evidence.specs.Changes.{is_pair}
use Rattle.theory.specs.Layout.{Ends}
use Rattle.survey.specs.declared.slip.Slip.{Slip}
use Rattle.survey.specs.declared.slip.ForProfile.{ForProfile}
use Rattle.survey.specs.declared.slip.ForTable.{ForTable}
use Rattle.survey.specs.declared.papers.Paper.{Paper}
use Rattle.survey.specs.declared.survey.Resolution.{Resolution}

-- A call that was made. A file's buffer is told as it was before and after.
pub data Event : Type 0 where
  Enlist : ℕ → Result ℕ Refusal → Event
  Share : ℕ → ℕ → Result Bool Refusal → Event
  Part : ℕ → ℕ → Result Bool Refusal → Event
  Resolve : Result Resolution Refusal → Event
  Begin : Result (Slip ForProfile) Refusal → Event
  WriteProfile : Slip ForProfile → ℕ → List ℕ → List ℕ → Result (Slip ForTable × ℕ) (Slip ForProfile × Refusal) → Event
  WriteTable : Slip ForTable → ℕ → List ℕ → List ℕ → Result ℕ (Slip ForTable × Refusal) → Event
  Withdraw : Paper → Result (Unit {0}) (Paper × Refusal) → Event
  AskEnds : ℕ → Result Ends Refusal → Event
  AskCommon : ℕ → ℕ → Result (Option ℕ) Refusal → Event
  AskDoubt : ℕ → Result Bool Refusal → Event

-- What an accepted call did. A share marks a pair as sharing, a part as not; each tells whether that changed it.
pub data Deed : Type 0 where
  enlisted : ℕ → Deed
  marked : ℕ → ℕ → Bool → Bool → Deed
  resolved : Deed
  begun : Deed
  profiled : Deed
  tabled : Deed
  withdrawn : Deed

-- One event more: a call that was refused did nothing, and one that asks does nothing.
abbrev pub noted : Event → List Deed → List Deed
noted (Enlist span (Ok n)) d = enlisted span ∷ d
noted (Enlist span (Err e)) d = d
noted (Share i j (Ok changed)) d = marked i j true changed ∷ d
noted (Share i j (Err e)) d = d
noted (Part i j (Ok changed)) d = marked i j false changed ∷ d
noted (Part i j (Err e)) d = d
noted (Resolve (Ok a)) d = resolved ∷ d
noted (Resolve (Err e)) d = d
noted (Begin (Ok p)) d = begun ∷ d
noted (Begin (Err e)) d = d
noted (WriteProfile p at old new (Ok given)) d = profiled ∷ d
noted (WriteProfile p at old new (Err e)) d = d
noted (WriteTable p at old new (Ok n)) d = tabled ∷ d
noted (WriteTable p at old new (Err e)) d = d
noted (Withdraw p (Ok done)) d = withdrawn ∷ d
noted (Withdraw p (Err e)) d = d
noted (AskEnds i r) d = d
noted (AskCommon i j r) d = d
noted (AskDoubt i r) d = d

-- What the accepted calls of a history did, the newest first.
abbrev pub accepted : List Event → List Deed
accepted [] = []
accepted (e ∷ h) = noted e (accepted h)

-- How many baselines were enlisted.
abbrev pub baselines : List Deed → ℕ
baselines [] = 0
baselines (enlisted span ∷ d) = baselines d + 1
baselines (marked i j on changed ∷ d) = baselines d
baselines (resolved ∷ d) = baselines d
baselines (begun ∷ d) = baselines d
baselines (profiled ∷ d) = baselines d
baselines (tabled ∷ d) = baselines d
baselines (withdrawn ∷ d) = baselines d

-- Their spans, that of baseline 0 first.
abbrev pub enlisted_spans : List Deed → List ℕ
enlisted_spans [] = []
enlisted_spans (enlisted span ∷ d) = enlisted_spans d ++ (span ∷ [])
enlisted_spans (marked i j on changed ∷ d) = enlisted_spans d
enlisted_spans (resolved ∷ d) = enlisted_spans d
enlisted_spans (begun ∷ d) = enlisted_spans d
enlisted_spans (profiled ∷ d) = enlisted_spans d
enlisted_spans (tabled ∷ d) = enlisted_spans d
enlisted_spans (withdrawn ∷ d) = enlisted_spans d

-- The latest accepted share or part of the pair, in either order, was a share.
abbrev pub sharing : List Deed → ℕ → ℕ → Bool
sharing [] a b = false
sharing (enlisted span ∷ d) a b = sharing d a b
sharing (marked i j on changed ∷ d) a b = cond (is_pair i j a b) on (sharing d a b)
sharing (resolved ∷ d) a b = sharing d a b
sharing (begun ∷ d) a b = sharing d a b
sharing (profiled ∷ d) a b = sharing d a b
sharing (tabled ∷ d) a b = sharing d a b
sharing (withdrawn ∷ d) a b = sharing d a b

-- The table that a history tells.
abbrev pub table_of : List Deed → Table
table_of d = record { count = baselines d; shares = sharing d }

-- A resolve was accepted, and since then nothing was enlisted and no pair changed.
abbrev pub is_resolved : List Deed → Bool
is_resolved [] = false
is_resolved (enlisted span ∷ d) = false
is_resolved (marked i j on changed ∷ d) = cond changed false (is_resolved d)
is_resolved (resolved ∷ d) = true
is_resolved (begun ∷ d) = is_resolved d
is_resolved (profiled ∷ d) = is_resolved d
is_resolved (tabled ∷ d) = is_resolved d
is_resolved (withdrawn ∷ d) = is_resolved d

-- What was done before the latest accepted resolve.
abbrev pub before_resolve : List Deed → List Deed
before_resolve [] = []
before_resolve (enlisted span ∷ d) = before_resolve d
before_resolve (marked i j on changed ∷ d) = before_resolve d
before_resolve (resolved ∷ d) = d
before_resolve (begun ∷ d) = before_resolve d
before_resolve (profiled ∷ d) = before_resolve d
before_resolve (tabled ∷ d) = before_resolve d
before_resolve (withdrawn ∷ d) = before_resolve d

-- How many issues were begun.
abbrev pub issues : List Deed → ℕ
issues [] = 0
issues (enlisted span ∷ d) = issues d
issues (marked i j on changed ∷ d) = issues d
issues (resolved ∷ d) = issues d
issues (begun ∷ d) = issues d + 1
issues (profiled ∷ d) = issues d
issues (tabled ∷ d) = issues d
issues (withdrawn ∷ d) = issues d

-- An issue is open: it was begun, and since then no table was written and nothing withdrawn.
abbrev pub is_open : List Deed → Bool
is_open [] = false
is_open (enlisted span ∷ d) = is_open d
is_open (marked i j on changed ∷ d) = is_open d
is_open (resolved ∷ d) = is_open d
is_open (begun ∷ d) = true
is_open (profiled ∷ d) = is_open d
is_open (tabled ∷ d) = false
is_open (withdrawn ∷ d) = false

-- How many profiles were written since the latest begin.
abbrev pub profiles : List Deed → ℕ
profiles [] = 0
profiles (enlisted span ∷ d) = profiles d
profiles (marked i j on changed ∷ d) = profiles d
profiles (resolved ∷ d) = profiles d
profiles (begun ∷ d) = 0
profiles (profiled ∷ d) = profiles d + 1
profiles (tabled ∷ d) = profiles d
profiles (withdrawn ∷ d) = profiles d

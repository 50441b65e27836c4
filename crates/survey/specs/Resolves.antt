-- What resolving a survey answers and leaves.
use Rattle.std.specs.Prelude.{◌≡◌, ℕ, zero, suc, ◌+◌, Bool, cond, ◌⊎◌, Some, None, Ok, Err, Result}
use Rattle.evidence.specs.declared.refusal.Refusal.{Refusal}
use Rattle.evidence.specs.declared.refusal.Refusal.TheVariants.{NoLayout}
use Rattle.evidence.specs.Refusals.{first_no}
use Rattle.evidence.specs.Table.{Table}
use Rattle.theory.specs.Placed.{Solved, Clash}
use Rattle.theory.specs.Record.{ends_of, doubt_of}
use Rattle.survey.specs.declared.state.Layout.{Layout}
use Rattle.survey.specs.declared.state.State.TheVariants as stage
use Rattle.survey.specs.declared.survey.Resolution.{Resolution}
use Rattle.survey.specs.Views.{View, with_state}
use Rattle.survey.specs.Questions.{resolve_questions}

-- How many numbers below n pass a test.
abbrev pub how_many : (ℕ → Bool) → ℕ → ℕ
how_many p zero = 0
how_many p (suc n) = cond (p n) (how_many p n + 1) (how_many p n)

-- It is the chosen, numbered layout of the table.
abbrev pub Solves : Table → Layout → Type 0
Solves t l = Solved t l.imagers (ends_of l.record) (doubt_of l.record)

-- The chosen layout is kept, and the numbers of its imagers and of the doubtful baselines are answered.
-- Refused while an issue is open, else with the lowest baseline whose cluster has no layout; the survey is then as it was.
abbrev pub Resolved : View → Result Resolution Refusal → View → Type 0
Resolved v (Ok a) w =
    (first_no (resolve_questions v) ≡ None)
    × ((l : Layout)
    × Solves v.table l
    × (a.imagers ≡ l.imagers)
    × (a.doubtful ≡ how_many (doubt_of l.record) v.table.count)
    × (w ≡ with_state v (stage.Resolved l)))
Resolved v (Err e) w =
    ((first_no (resolve_questions v) ≡ Some e)
    ⊎ ((first_no (resolve_questions v) ≡ None) × ((i : ℕ) × (e ≡ NoLayout i) × Clash v.table i)))
    × (w ≡ v)

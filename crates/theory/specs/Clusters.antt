-- Clusters of baselines, and when a baseline is doubtful.
use Rattle.std.specs.Prelude.{◌≡◌, ℕ, true, ◌≢◌}
use Rattle.evidence.specs.Table.{Table}
use Rattle.theory.specs.Layout.{Ends, LayoutOn}
use Rattle.theory.specs.Groups.{Three, Agree}

-- The cluster of i: the baselines that are reached from i by steps of sharing.
pub data Reach (t : Table) (i : ℕ) : ℕ → Type 0 where
  here : Reach t i i
  step : {j k : ℕ} → Reach t i j → t.shares j k ≡ true → Reach t i k

-- The cluster of i has a layout.
abbrev pub HasLayout : Table → ℕ → Type 0
HasLayout t i = (e : ℕ → Ends) × LayoutOn t (Reach t i) e

-- A baseline is doubtful when its cluster has two layouts that disagree on three different baselines of it.
pub record Doubtful (t : Table) (i : ℕ) : Type 0 where
  pub one : ℕ → Ends
  pub two : ℕ → Ends
  pub fits_one : LayoutOn t (Reach t i) one
  pub fits_two : LayoutOn t (Reach t i) two
  pub three : Three
  pub in_cluster : Reach t i three.0 × Reach t i three.1 × Reach t i three.2
  pub apart : (three.0 ≢ three.1) × (three.1 ≢ three.2) × (three.0 ≢ three.2)
  pub disagree : Agree one two three → ⊥

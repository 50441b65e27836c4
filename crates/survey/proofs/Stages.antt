-- An issue that goes on keeps its layout.
use Rattle.std.proofs.Common.{◌≡◌, ℕ, Some, refl, ap}
use Rattle.std.specs.Option.{option_map_or}
use Rattle.survey.specs.declared.state.Layout.{Layout}
use Rattle.survey.specs.declared.state.State.{State}
use Rattle.survey.specs.declared.state.State.TheVariants.{Unresolved, Resolved, Begun, Profiled}
use Rattle.survey.specs.Views.{View, with_state, layout_of}
use Rattle.survey.specs.Issues.{staged, with_issue, at_stage}

module _ (stage : Layout → State) (keeps : (l : Layout) → layout_of (stage l) ≡ Some l) where
  -- the layout at a stage
  pub same_layout : (s : State) → layout_of (staged stage s) ≡ layout_of s
  same_layout Unresolved = refl
  same_layout (Resolved l) = keeps l
  same_layout (Begun l) = keeps l
  same_layout (Profiled l) = keeps l

  -- a stage after that one
  pub next_stage : (v : View) (issue : ℕ) (next : Layout → State) → at_stage (with_issue v issue stage) next ≡ with_issue v issue next
  next_stage v issue next =
      ap (λ l. with_state (with_issue v issue next) (option_map_or next l Unresolved)) (same_layout v.state)

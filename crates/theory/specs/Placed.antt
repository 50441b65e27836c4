-- What placing a table answers and leaves, in the words of layouts.
use Rattle.std.specs.Prelude.{◌≡◌, ℕ, ◌<◌, ◌≤◌, Bool, true, ◌↔◌, Ok, Err, Result}
use Rattle.evidence.specs.declared.refusal.Refusal.{Refusal}
use Rattle.evidence.specs.declared.refusal.Refusal.TheVariants.{NoLayout}
use Rattle.evidence.specs.Table.{Table}
use Rattle.theory.specs.Layout.{Ends}
use Rattle.theory.specs.Groups.{Chosen}
use Rattle.theory.specs.Clusters.{HasLayout, Doubtful}
use Rattle.theory.specs.Numbers.{Numbered}
use Rattle.theory.specs.declared.record.Record.{Record}
use Rattle.theory.specs.Record.{blank, entry_of, ends_of, doubt_of}

-- The answer of a table that has a layout: the chosen layout, numbered, and which baselines are doubtful.
pub record Solved (t : Table) (imagers : ℕ) (ends : ℕ → Ends) (doubtful : ℕ → Bool) : Type 0 where
  pub chosen : Chosen t ends
  pub numbered : Numbered t.count ends imagers
  pub doubt : (i : ℕ) → i < t.count → (doubtful i ≡ true) ↔ Doubtful t i

-- The answer of a table that has none: the lowest baseline whose cluster has no layout.
pub record Clash (t : Table) (i : ℕ) : Type 0 where
  pub below : i < t.count
  pub none : HasLayout t i → ⊥
  pub lowest : (j : ℕ) → j < i → HasLayout t j

-- What `place` answers and leaves: the number of imagers, with the answer told in the record and its entries from the count
-- on zero; or refusal 18 with the lowest baseline whose cluster has no layout, and the record as it was.
abbrev pub Placed : Table → Record → Record → Result ℕ Refusal → Type 0
Placed t before after (Ok imagers) =
    Solved t imagers (ends_of after) (doubt_of after) × ((i : ℕ) → t.count ≤ i → entry_of after i ≡ blank)
Placed t before after (Err e) = (i : ℕ) × (e ≡ NoLayout i) × Clash t i × (after ≡ before)

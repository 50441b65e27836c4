-- What is proved of the definitions alone.
use Rattle.std.specs.Prelude.{◌≡◌, ℕ, ◌<◌, ◌≢◌, ◌↔◌, List, Some, None}
use Rattle.evidence.specs.Table.{Table, Sound}
use Rattle.evidence.specs.Drawing.{entries, entry, drawn, Proper}
use Rattle.theory.specs.Layout.{Ends, Layout}
use Rattle.theory.specs.Groups.{Trio, Chosen}
use Rattle.theory.specs.Clusters.{HasLayout, Doubtful}
use Rattle.theory.specs.Numbers.{Numbered}
use Rattle.theory.specs.Placed.{Solved, Clash}
use Rattle.theory.specs.Answer.{unsettled, found}

-- The answer of a table is fixed: two chosen layouts that are numbered have as many imagers and tell the same ends.
abbrev pub AnswerFixed : Type 0
AnswerFixed = (t : Table) (e f : ℕ → Ends) (m n : ℕ)
    → Chosen t e → Chosen t f → Numbered t.count e m → Numbered t.count f n
    → ((i : ℕ) → i < t.count → e i ≡ f i) × (m ≡ n)

-- A table has a layout exactly when every cluster of it has one.
abbrev pub LayoutByClusters : Type 0
LayoutByClusters =
    (t : Table) → Sound t → ((e : ℕ → Ends) × Layout t e) ↔ ((i : ℕ) → i < t.count → HasLayout t i)

-- The search is right: where no cluster is left unsettled what it finds is the answer of the table,
-- and else the lowest unsettled baseline is the one whose cluster has no layout.
abbrev pub SearchRight : Type 0
SearchRight = (t : Table) → Sound t
    → (unsettled t ≡ None → Solved t (found t).imagers (found t).ends (found t).doubtful)
    × ((i : ℕ) → unsettled t ≡ Some i → Clash t i)

-- A proper drawing is a layout of its own table, and is found again: three different baselines that are not doubtful
-- have a common imager in the chosen layout exactly when they have one as drawn.
abbrev pub DrawnBack : Type 0
DrawnBack = (bytes : List ℕ) → Proper bytes
    → Layout (drawn bytes) (entry bytes)
    × ((e : ℕ → Ends) → Chosen (drawn bytes) e
    → (i j k : ℕ) → i < entries bytes → j < entries bytes → k < entries bytes → i ≢ j → j ≢ k → i ≢ k
    → (Doubtful (drawn bytes) i → ⊥) → (Doubtful (drawn bytes) j → ⊥) → (Doubtful (drawn bytes) k → ⊥)
    → Trio e i j k ↔ Trio (entry bytes) i j k)

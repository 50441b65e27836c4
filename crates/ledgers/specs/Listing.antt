-- The table that a list of pairs holds.
use Rattle.std.specs.Prelude.{ℕ, Bool, List}
use Rattle.std.specs.List.{list_any}
use Rattle.evidence.specs.Table.{Table}
use Rattle.evidence.specs.Changes.{is_pair}

-- Whether an entry is the pair i, j, in either order.
abbrev pub hit : ℕ → ℕ → ℕ × ℕ → Bool
hit i j entry = is_pair i j entry.0 entry.1

-- Two baselines share when their pair is listed.
abbrev pub listing : ℕ → List (ℕ × ℕ) → Table
listing count entries = record { count = count; shares = λ i j. list_any (hit i j) entries }

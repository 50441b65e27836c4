-- What a layout of a table is: two different imagers for each baseline, which meet as the table says.
use Rattle.std.specs.Prelude.{◌≡◌, ℕ, ◌+◌, ◌<◌, Bool, cond, ◌||◌, ◌≢◌, ◌==◌}
use Rattle.evidence.specs.Table.{Table}

-- The two imagers of a baseline.
abbrev pub Ends : Type 0
Ends = ℕ × ℕ

-- Whether imager a is at a baseline with these ends.
abbrev pub stands : ℕ → Ends → Bool
stands a e = a == e.0 || a == e.1

-- How many imagers two baselines have in common, the ends of each being different.
abbrev pub in_common : Ends → Ends → ℕ
in_common d e = cond (stands d.0 e) 1 0 + cond (stands d.1 e) 1 0

-- A layout of the baselines that `among` picks: the ends of each are different,
-- and two of them have one imager in common if they share, and none if they do not.
pub record LayoutOn (t : Table) (among : ℕ → Type 0) (e : ℕ → Ends) : Type 0 where
  pub different : (i : ℕ) → among i → (e i).0 ≢ (e i).1
  pub meets : (i j : ℕ) → among i → among j → i ≢ j → in_common (e i) (e j) ≡ cond (t.shares i j) 1 0

-- A layout of all baselines of a table.
abbrev pub Layout : Table → (ℕ → Ends) → Type 0
Layout t e = LayoutOn t (λ i. i < t.count) e

-- How layouts group baselines three by three, and which layout is chosen.
use Rattle.std.specs.Prelude.{◌≡◌, ℕ, ◌<◌, Bool, true, ◌&&◌, ◌||◌, ◌⊎◌, ◌↔◌}
use Rattle.evidence.specs.Table.{Table}
use Rattle.theory.specs.Layout.{Ends, stands, Layout}

-- Some imager is at all three baselines.
abbrev pub Trio : (ℕ → Ends) → ℕ → ℕ → ℕ → Type 0
Trio e i j k = (a : ℕ) × (stands a (e i) ≡ true) × (stands a (e j) ≡ true) × (stands a (e k) ≡ true)

-- The test of it: one of the two imagers of the first is at the two others.
abbrev pub has_trio : (ℕ → Ends) → ℕ → ℕ → ℕ → Bool
has_trio e i j k = (stands (e i).0 (e j) && stands (e i).0 (e k)) || (stands (e i).1 (e j) && stands (e i).1 (e k))

-- Three baselines, by their numbers.
abbrev pub Three : Type 0
Three = ℕ × ℕ × ℕ

-- Two layouts agree on three baselines: both have a common imager for them, or neither has.
abbrev pub Agree : (ℕ → Ends) → (ℕ → Ends) → Three → Type 0
Agree e f t = Trio e t.0 t.1 t.2 ↔ Trio f t.0 t.1 t.2

-- Three different baselines, told by rising numbers below n.
abbrev pub Rising : ℕ → Three → Type 0
Rising n t = (t.0 < t.1) × (t.1 < t.2) × (t.2 < n)

-- Two layouts of n baselines group alike.
abbrev pub GroupAlike : ℕ → (ℕ → Ends) → (ℕ → Ends) → Type 0
GroupAlike n e f = (t : Three) → Rising n t → Agree e f t

-- The order of threes: by the least number, then the middle one, then the greatest.
abbrev pub Sooner : Three → Three → Type 0
Sooner s t = (s.0 < t.0) ⊎ ((s.0 ≡ t.0) × ((s.1 < t.1) ⊎ ((s.1 ≡ t.1) × (s.2 < t.2))))

-- On the first three on which e and f disagree, e has the common imager.
abbrev pub Leads : ℕ → (ℕ → Ends) → (ℕ → Ends) → Type 0
Leads n e f = (t : Three) → Rising n t
    → ((s : Three) → Rising n s → Sooner s t → Agree e f s)
    → Trio f t.0 t.1 t.2 → Trio e t.0 t.1 t.2

-- The chosen layout of a table: it leads every other.
pub record Chosen (t : Table) (e : ℕ → Ends) : Type 0 where
  pub fits : Layout t e
  pub leads : (f : ℕ → Ends) → Layout t f → Leads t.count e f

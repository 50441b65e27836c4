-- What the search on all clusters finds.
use Rattle.std.specs.Prelude.{◌≡◌, ℕ, ◌<◌, true, false, ◌↔◌, Ok, Err, Result}
use Rattle.bitset.specs.Sets.{has}
use Rattle.evidence.specs.Table.{Table}
use Rattle.evidence.specs.declared.refusal.Refusal.{Refusal}
use Rattle.evidence.specs.declared.refusal.Refusal.TheVariants.{NoLayout}
use Rattle.theory.specs.Placed.{Clash}
use Rattle.theory.specs.Walks.{root}
use Rattle.theory.specs.Search.{Settled}
use Rattle.layout.specs.declared.clusters.Clusters.{Clusters}
use Rattle.layout.specs.Tables.{bits_at}

-- The clusters of the baselines below n are settled: each cluster is known by its lowest baseline, its root.
pub record Settling (t : Table) (x : Clusters) (n : ℕ) : Type 0 where
  pub which : (v : ℕ) → v < t.count → (has x.settled.bits v ≡ true) ↔ (root t v < n)
  pub settled : (v : ℕ) → v < t.count → root t v < n → Settled t (root t v) (bits_at x.near.near) (has x.doubtful.bits v)
  pub certain : (v : ℕ) → has x.settled.bits v ≡ false → has x.doubtful.bits v ≡ false

-- All clusters are settled, or refusal 18 names the lowest baseline whose cluster has no layout.
abbrev pub Answered : Table → Result Clusters Refusal → Type 0
Answered t (Ok x) = (v : ℕ) → v < t.count → Settled t (root t v) (bits_at x.near.near) (has x.doubtful.bits v)
Answered t (Err e) = (i : ℕ) × (e ≡ NoLayout i) × Clash t i

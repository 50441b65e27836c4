-- Near stars of a cluster, kept in an array.
use Rattle.std.specs.Prelude.{◌≡◌, ℕ, List, Option}
use Rattle.bitset.specs.declared.set.BaselineSet.{BaselineSet}
use Rattle.evidence.specs.Table.{Table}
use Rattle.theory.specs.Clusters.{Reach}
use Rattle.theory.specs.Stars.{star, Stars}
use Rattle.theory.specs.Search.{first}
use Rattle.layout.specs.Tables.{bits_at}

-- Outside the cluster of r the near stars are as they were.
abbrev pub KeptOutside : Table → ℕ → List BaselineSet → List BaselineSet → Type 0
KeptOutside t r before after = (v : ℕ) → (Reach t r v → ⊥) → bits_at after v ≡ bits_at before v

-- The near stars are a system of stars on the cluster of r that begins with the first star of a start.
pub record Begins (t : Table) (r : ℕ) (start : Option ℕ) (near : ℕ → ℕ) : Type 0 where
  pub stars : Stars t (Reach t r) (star t near)
  pub first : near r ≡ first t r start

-- The line graph of a graph, as in Lehot (1974), "An optimal algorithm to detect a line graph and output its root graph".
use Rattle.std.specs.Prelude.{◌≡◌, ℕ, ◌<◌, true, ◌≢◌, ◌⊎◌, ◌↔◌}
use Rattle.evidence.specs.Table.{Table}

-- An edge joins two vertices; v is one of them.
abbrev pub On : ℕ → ℕ × ℕ → Type 0
On v e = (v ≡ e.0) ⊎ (v ≡ e.1)

-- Two edges have a vertex in common.
abbrev pub Touch : ℕ × ℕ → ℕ × ℕ → Type 0
Touch d e = (v : ℕ) × On v d × On v e

-- A table is the line graph of a graph with n edges, edge i joining two vertices: it has a node for each edge, and two nodes are adjacent
-- exactly when they are different and their edges have a vertex in common.
pub record LineGraph (n : ℕ) (edge : ℕ → ℕ × ℕ) (t : Table) : Type 0 where
  pub nodes : t.count ≡ n
  pub adjacent : (i j : ℕ) → i < n → j < n → (t.shares i j ≡ true) ↔ ((i ≢ j) × Touch (edge i) (edge j))

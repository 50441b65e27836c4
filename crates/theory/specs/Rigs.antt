-- Rigs worked through: their sharing pairs, and the outcome that the definitions yield.
use Rattle.std.specs.Prelude.{ℕ, Bool, true, false, ◌||◌, List, [], ◌∷◌, slice_index_or}
use Rattle.evidence.specs.Table.{Table}
use Rattle.evidence.specs.Changes.{is_pair}
use Rattle.theory.specs.Layout.{Ends}
use Rattle.theory.specs.Placed.{Solved, Clash}

-- So many imagers, the ends of each baseline, and whether the baselines are doubtful; or no layout, with the lowest
-- baseline whose cluster has none.
pub data Outcome : Type 0 where
  placed : ℕ → List Ends → Bool → Outcome
  clash : ℕ → Outcome

pub record Rig : Type 0 where
  pub count : ℕ
  pub sharing : List (ℕ × ℕ)
  pub outcome : Outcome

-- Whether the pair i, j is in the list, in either order.
abbrev pub among : List (ℕ × ℕ) → ℕ → ℕ → Bool
among [] i j = false
among (p ∷ pairs) i j = is_pair i j p.0 p.1 || among pairs i j

abbrev pub table_of : Rig → Table
table_of rig = record { count = rig.count; shares = among rig.sharing }

-- The definitions yield the outcome.
abbrev pub Yields : Table → Outcome → Type 0
Yields t (placed imagers ends doubtful) = Solved t imagers (λ i. slice_index_or ends i (0, 0)) (λ _. doubtful)
Yields t (clash i) = Clash t i

-- no baselines
abbrev pub nothing : Rig
nothing = record { count = 0; sharing = []; outcome = placed 0 [] false }

-- a lone baseline
abbrev pub lone : Rig
lone = record { count = 1; sharing = []; outcome = placed 2 ((0, 1) ∷ []) false }

-- three that all share: a star, or a triangle
abbrev pub triple : Rig
triple = record {
  count = 3;
  sharing = (0, 1) ∷ ((0, 2) ∷ ((1, 2) ∷ []));
  outcome = placed 4 ((0, 1) ∷ ((0, 2) ∷ ((0, 3) ∷ []))) true;
}

-- a path of three
abbrev pub path : Rig
path = record {
  count = 3;
  sharing = (0, 1) ∷ ((1, 2) ∷ []);
  outcome = placed 4 ((0, 1) ∷ ((0, 2) ∷ ((2, 3) ∷ []))) false;
}

-- one that shares with three which do not share
abbrev pub claw : Rig
claw = record { count = 4; sharing = (0, 1) ∷ ((0, 2) ∷ ((0, 3) ∷ [])); outcome = clash 0 }

-- four of which all but one pair share
abbrev pub four : Rig
four = record {
  count = 4;
  sharing = (0, 1) ∷ ((0, 2) ∷ ((0, 3) ∷ ((1, 2) ∷ ((1, 3) ∷ []))));
  outcome = placed 4 ((0, 1) ∷ ((0, 2) ∷ ((0, 3) ∷ ((1, 2) ∷ [])))) true;
}

-- five of which all but one pair share
abbrev pub five : Rig
five = record {
  count = 5;
  sharing = (0, 1) ∷ ((0, 2) ∷ ((0, 3) ∷ ((0, 4) ∷ ((1, 2) ∷ ((1, 3) ∷ ((1, 4) ∷ ((2, 3) ∷ ((2, 4) ∷ []))))))));
  outcome = clash 0;
}

-- a lone baseline, and one that shares with three which do not share
abbrev pub lone_and_claw : Rig
lone_and_claw = record { count = 5; sharing = (1, 2) ∷ ((1, 3) ∷ ((1, 4) ∷ [])); outcome = clash 1 }

-- one that shares with all of a ring of four
abbrev pub wheel : Rig
wheel = record {
  count = 5;
  sharing = (0, 1) ∷ ((0, 2) ∷ ((0, 3) ∷ ((0, 4) ∷ ((1, 2) ∷ ((2, 3) ∷ ((3, 4) ∷ ((1, 4) ∷ [])))))));
  outcome = placed 4 ((0, 1) ∷ ((0, 2) ∷ ((0, 3) ∷ ((1, 3) ∷ ((1, 2) ∷ []))))) true;
}

abbrev pub worked : List Rig
worked = nothing ∷ (lone ∷ (triple ∷ (path ∷ (claw ∷ (four ∷ (five ∷ (lone_and_claw ∷ (wheel ∷ []))))))))

-- Every rig of a list has the outcome that the definitions yield.
abbrev pub EveryYields : List Rig → Type 0
EveryYields [] = Unit {0}
EveryYields (rig ∷ rigs) = Yields (table_of rig) rig.outcome × EveryYields rigs

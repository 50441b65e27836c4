-- What the search settles, cluster by cluster, is the answer of the whole table.
use Rattle.std.proofs.Common.{◌≡◌, ℕ, ◌<◌, Bool, [], length, subst, arith}
use mathlib.Core.List.Memᴰ
use mathlib.Core.List.{Memᴰ}
use Rattle.evidence.specs.Table.{Table, Sound}
use Rattle.theory.specs.Placed.{Solved, Clash}
use Rattle.theory.specs.Stars.{star}
use Rattle.theory.specs.Walks.{root}
use Rattle.theory.specs.Search.{passing, Settled}
use Rattle.theory.specs.Imagers.{all_stars, layout_of}
use Rattle.theory.proofs.Cluster.{layout_member}
use Rattle.theory.proofs.Names.{named, named_fits}
use Rattle.theory.proofs.Numbering.{numbering_fits, numbering_numbered}
use Rattle.theory.proofs.Settling.{fewer, from_root, whole_stars}
use Rattle.theory.proofs.Leads.{leads_here}
use Rattle.theory.proofs.Doubts.{doubt_tells}

module _ (t : Table) (sound : Sound t) (near : ℕ → ℕ) (doubtful : ℕ → Bool)
    (settled : (v : ℕ) → v < t.count → Settled t (root t v) near (doubtful v)) where
  -- what settles every cluster is the answer of the table
  pub settled_solved : Solved t (length (all_stars t near)) (layout_of t near) doubtful
  settled_solved = record {
    chosen = record {
      fits = numbering_fits sound (whole_stars t sound near doubtful settled);
      leads = λ f fits three rising sooner trio. leads_here t sound near doubtful settled f fits three.0 three.1 three.2 rising.0 rising.1 rising.2 sooner trio;
    };
    numbered = numbering_numbered sound (whole_stars t sound near doubtful settled);
    doubt = doubt_tells t sound near doubtful settled;
  }

-- a cluster of which no start passes has no layout, and those settled below it have one
pub unsettled_clash : (t : Table) → Sound t → (r : ℕ) → r < t.count → passing t r ≡ []
    → ((v : ℕ) → v < r → (near : ℕ → ℕ) × (doubtful : Bool) × Settled t (root t v) near doubtful) → Clash t r
unsettled_clash t sound r l none settled = record {
  below = l;
  none = λ h. let m = layout_member t sound r l h.1 in Memᴰ.not-nil (subst (Memᴰ m.0) none m.1);
  lowest = λ v h.
      let s = settled v h in
      (named t (star t s.0), fewer (from_root t sound v (omega arith)) (named_fits sound s.2.stars));
}

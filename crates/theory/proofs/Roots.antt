-- The root of a cluster: its lowest baseline, the same for each baseline of the cluster.
use Rattle.std.proofs.Common.{◌≡◌, ℕ, ◌<◌, ◌≤◌, true, ◌↔◌, sym, ap, subst, ⊎_elim}
use Rattle.std.proofs.lemmas.Bool.{both_ways, cases_lt}
use Rattle.std.proofs.lemmas.Bool.Decides.{same_from_decides, Decides-like}
use Rattle.bitset.specs.Sets.{has, lowest, Lowest}
use Rattle.bitset.proofs.Members.{not_empty, lowest_is, same_set}
use Rattle.evidence.specs.Table.{Table, Sound}
use Rattle.theory.specs.Clusters.{Reach, here}
use Rattle.theory.specs.Walks.{cluster, root}
use Rattle.theory.proofs.Reaches.{reach_join, reach_back, reach_below}
use Rattle.theory.proofs.Walks.{walk_cluster, cluster_lt}

module _ (t : Table) (sound : Sound t) where
  module _ (v : ℕ) (below : v < t.count) where
    -- the cluster is not empty, so it has a lowest baseline
    root_lowest : Lowest (cluster t v) (root t v)
    root_lowest =
        lowest_is (cluster t v) (not_empty (cluster t v) v ((walk_cluster t sound v below v).1 here)) (cluster_lt t sound v below)

    -- the root is reached
    pub root_reach : Reach t v (root t v)
    root_reach = (walk_cluster t sound v below (root t v)).0 root_lowest.member

    -- so it is a baseline
    pub root_below : root t v < t.count
    root_below = reach_below t sound below root_reach

    -- no baseline of the cluster is lower
    pub root_least : (j : ℕ) → Reach t v j → root t v ≤ j
    root_least j a =
        ⊎_elim
        (λ h. absurd (both_ways _ (root_lowest.least j h) ((walk_cluster t sound v below j).1 a)))
        (λ h. h)
        (cases_lt j (root t v))

    -- the baselines of a cluster have one cluster set
    pub cluster_same : (w : ℕ) → Reach t v w → cluster t v ≡ cluster t w
    cluster_same w a =
        same_set 64 _ _ (cluster_lt t sound v below) (cluster_lt t sound w below')
        (λ i _. same_from_decides _ _ (walk_cluster t sound v below i) (from_w i))
      where
        below' : w < t.count
        below' = reach_below t sound below a

        from_w : (i : ℕ) → (has (cluster t w) i ≡ true) ↔ Reach t v i
        from_w i = Decides-like _ (reach_join t sound a) (reach_join t sound (reach_back t sound a)) (walk_cluster t sound w below' i)

    -- and one root
    pub root_same : (w : ℕ) → Reach t v w → root t v ≡ root t w
    root_same w a = ap lowest (cluster_same w a)

    -- which is its own root
    pub root_root : root t (root t v) ≡ root t v
    root_root = sym (root_same (root t v) root_reach)

  -- baselines with one root are of one cluster
  pub same_root_reach : (v w : ℕ) → v < t.count → w < t.count → root t v ≡ root t w → Reach t v w
  same_root_reach v w h k e =
      reach_join t sound (subst (Reach t v) e (root_reach v h)) (reach_back t sound (root_reach w k))

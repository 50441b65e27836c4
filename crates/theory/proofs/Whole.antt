-- A table has a layout exactly when every cluster of it has one.
use Rattle.std.proofs.Common.{◌≡◌, ℕ, ◌+◌, ◌*◌, ◌<◌, ◌≤◌, false, cond, ◌≢◌, ◌⊎◌, sym, ap, ◌∙◌, inl, inr, ⊎_elim, arith}
use Rattle.std.proofs.lemmas.Bool.{cases_lt, cases_eq, false_from_ne_true}
use Rattle.std.proofs.lemmas.Bool.Decides.{nat_tests}
use Rattle.evidence.specs.Table.{Table, Sound}
use Rattle.theory.specs.Layout.{Ends, in_common, LayoutOn, Layout}
use Rattle.theory.specs.Clusters.{Reach, here, step, HasLayout}
use Rattle.theory.specs.Walks.{root}
use Rattle.theory.specs.Theorems.{LayoutByClusters}
use Rattle.theory.proofs.Reaches.{reach_back, reach_below}
use Rattle.theory.proofs.Roots.{root_reach, root_below, root_same}

-- The imagers of the cluster with root r, renamed so that those of different clusters have different numbers.
abbrev renamed : ℕ → Ends → Ends
renamed r e = (e.0 * 64 + r, e.1 * 64 + r)

-- within a cluster the renamed imagers meet as before
renamed_within : (r : ℕ) (d e : Ends) → in_common (renamed r d) (renamed r e) ≡ in_common d e
renamed_within r d e = grind (arith, nat_tests)

-- those of different clusters do not meet
renamed_apart : (q r : ℕ) (d e : Ends) → q < 64 → r < 64 → q ≢ r → in_common (renamed q d) (renamed r e) ≡ 0
renamed_apart q r d e h k ne = grind (arith, nat_tests)

-- ---- From the clusters to the table

module _ (t : Table) (each : (i : ℕ) → i < t.count → HasLayout t i) where
  -- The ends of i in the layout of the cluster of r, told whether r is below the count. Past it any ends do.
  abbrev ends_told : (r : ℕ) → (r < t.count) ⊎ (t.count ≤ r) → ℕ → Ends
  ends_told r (inl h) i = (each r h).0 i
  ends_told r (inr h) i = (0, 0)

  -- The ends of i in the layout of the cluster of r.
  abbrev ends_in : ℕ → ℕ → Ends
  ends_in r i = ends_told r (cases_lt r t.count) i

  -- The layouts of the clusters put together: each baseline has its ends in the cluster of its root.
  abbrev together : ℕ → Ends
  together i = renamed (root t i) (ends_in (root t i) i)

  -- below the count the ends told are a layout of the cluster
  ends_told_fit : (r : ℕ) (where-is : (r < t.count) ⊎ (t.count ≤ r)) → r < t.count → LayoutOn t (Reach t r) (ends_told r where-is)
  ends_told_fit r (inl h) below = (each r h).1
  ends_told_fit r (inr h) below = absurd (omega arith)

  module _ (sound : Sound t) where
    -- so they are for the root of a baseline
    ends_in_fit : (i : ℕ) → i < t.count → LayoutOn t (Reach t (root t i)) (ends_in (root t i))
    ends_in_fit i h = ends_told_fit (root t i) (cases_lt (root t i) t.count) (root_below t sound i h)

    -- each baseline is in the cluster of its root
    from_root : (i : ℕ) → i < t.count → Reach t (root t i) i
    from_root i h = reach_back t sound (root_reach t sound i h)

    -- two baselines of one cluster meet as the table says
    meets_within : (i j : ℕ) → i < t.count → j < t.count → i ≢ j → root t i ≡ root t j
        → in_common (together i) (together j) ≡ cond (t.shares i j) 1 0
    meets_within i j h k ne e =
        ap (λ r. in_common (together i) (renamed r (ends_in r j))) (sym e)
        ∙ renamed_within (root t i) _ _
        ∙ (ends_in_fit i h).meets i j (from_root i h) (rw e (from_root j k)) ne

    -- and so do two of different clusters: they do not share
    meets_apart : (i j : ℕ) → i < t.count → j < t.count → root t i ≢ root t j
        → in_common (together i) (together j) ≡ cond (t.shares i j) 1 0
    meets_apart i j h k ne =
        let few = sound.few in
        renamed_apart (root t i) (root t j) _ _ (omega (arith, root_below t sound i h)) (omega (arith, root_below t sound j k)) ne
        ∙ sym (ap (λ b. cond b 1 0) unshared)
      where
        unshared : t.shares i j ≡ false
        unshared = false_from_ne_true (t.shares i j) (λ s. ne (root_same t sound i h j (step here s)))

    -- so the ends put together are a layout of the table
    together_fits : Layout t together
    together_fits = record {
      different = λ i h e. (ends_in_fit i h).different i (from_root i h) (omega arith);
      meets = λ i j h k ne. ⊎_elim (meets_within i j h k ne) (meets_apart i j h k) (cases_eq (root t i) (root t j));
    }

-- layouts of all clusters make one of the table
pub whole_layout : (t : Table) → Sound t → ((i : ℕ) → i < t.count → HasLayout t i) → (e : ℕ → Ends) × Layout t e
whole_layout t sound each = (together t each, together_fits t each sound)

-- ---- From the table to the clusters

-- a layout of the table is one of each cluster
pub cluster_layout : (t : Table) → Sound t → {e : ℕ → Ends} → Layout t e → (i : ℕ) → i < t.count → LayoutOn t (Reach t i) e
cluster_layout t sound fits i h = record {
  different = λ j a. fits.different j (reach_below t sound h a);
  meets = λ j k a b. fits.meets j k (reach_below t sound h a) (reach_below t sound h b);
}

-- so a table has a layout exactly when every cluster of it has one
pub layout_by_clusters : LayoutByClusters
layout_by_clusters t sound = (λ x i h. (x.0, cluster_layout t sound x.1 i h), whole_layout t sound)

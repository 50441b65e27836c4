-- Settled clusters: their threes, their starts, and their stars together.
use Rattle.std.proofs.Common.{◌≡◌, ℕ, ◌<◌, ◌≤◌, Bool, true, ◌↔◌, List, ◌∷◌, Option, sym, refl, ap, ◌∙◌, subst}
use mathlib.Core.List.{Memᴰ}
use Rattle.evidence.specs.Table.{Table, Sound}
use Rattle.theory.specs.Layout.{Ends, LayoutOn}
use Rattle.theory.specs.Groups.{Trio}
use Rattle.theory.specs.Clusters.{Reach, here}
use Rattle.theory.specs.Stars.{Stars, star, star_trio}
use Rattle.theory.specs.Walks.{root}
use Rattle.theory.specs.Search.{first, attempt, passing, Settled}
use Rattle.theory.specs.Imagers.{layout_of}
use Rattle.theory.proofs.Reaches.{reach_join, reach_back, reach_below}
use Rattle.theory.proofs.Roots.{root_reach, root_below, root_least}
use Rattle.theory.proofs.SameStart.{same_trio}
use Rattle.theory.proofs.Prefer.{Preferred}
use Rattle.theory.proofs.Cluster.{attempt_start, member_stars, layout_member, head_preferred}
use Rattle.theory.proofs.Numbering.{numbering_groups}

-- a layout of some baselines is one of fewer
pub fewer : {t : Table} {A B : ℕ → Type 0} {e : ℕ → Ends} → ((v : ℕ) → A v → B v) → LayoutOn t B e → LayoutOn t A e
fewer h fits = record { different = λ i a. fits.different i (h i a); meets = λ i j a b. fits.meets i j (h i a) (h j b) }

-- the root of i reaches what i reaches, and the other way round
module _ (t : Table) (sound : Sound t) (i : ℕ) (below : i < t.count) where
  pub from_root : (v : ℕ) → Reach t i v → Reach t (root t i) v
  from_root v c = reach_join t sound (reach_back t sound (root_reach t sound i below)) c

  pub to_root : (v : ℕ) → Reach t (root t i) v → Reach t i v
  to_root v c = reach_join t sound (root_reach t sound i below) c

  root_is_least : (j : ℕ) → Reach t (root t i) j → root t i ≤ j
  root_is_least j c = root_least t sound i below j (to_root j c)

  -- the near stars that settle the cluster of i have the threes of the preferred start
  pub settled_trio : {near : ℕ → ℕ} {doubtful : Bool} (s : Settled t (root t i) near doubtful) (y : Option ℕ)
      → Memᴰ y (passing t (root t i)) → y ≡ s.start → (a b c : ℕ) → Reach t (root t i) a
      → star_trio (star t near) a b c ≡ star_trio (star t (attempt t (root t i) y)) a b c
  settled_trio s y m e =
      same_trio sound s.stars (member_stars t sound (root t i) (root_below t sound i below) y m) true true
      (s.begins ∙ ap (first t (root t i)) (sym e) ∙ sym (attempt_start t sound (root t i) (root_below t sound i below) y))

  -- the threes of every layout of the cluster are those of a start that passes
  pub layout_start : {e : ℕ → Ends} → LayoutOn t (Reach t i) e
      → (y : Option ℕ) × Memᴰ y (passing t (root t i))
      × ((a b c : ℕ) → Reach t (root t i) a → Reach t (root t i) b → Reach t (root t i) c
      → Trio e a b c ↔ (star_trio (star t (attempt t (root t i) y)) a b c ≡ true))
  layout_start fits = layout_member t sound (root t i) (root_below t sound i below) (fewer to_root fits)

  -- the first start that passes is preferred to each other
  pub start_preferred : (x : Option ℕ) (others : List (Option ℕ)) → passing t (root t i) ≡ x ∷ others → (y : Option ℕ) → Memᴰ y others
      → Preferred t (root t i) (star t (attempt t (root t i) x)) (star t (attempt t (root t i) y))
  start_preferred = head_preferred t sound (root t i) (root_below t sound i below) root_is_least

  pub first_member : (x : Option ℕ) (others : List (Option ℕ)) → passing t (root t i) ≡ x ∷ others → Memᴰ x (passing t (root t i))
  first_member x others e = subst (Memᴰ x) (sym e) (Memᴰ.head refl)

module _ (t : Table) (sound : Sound t) (near : ℕ → ℕ) (doubtful : ℕ → Bool)
    (settled : (v : ℕ) → v < t.count → Settled t (root t v) near (doubtful v)) where
  -- the stars of all clusters together
  pub whole_stars : Stars t (λ v. v < t.count) (star t near)
  whole_stars = record {
    other = λ v s l. (settled v l).stars.other v s (from_root t sound v l v here);
    along = λ v s w l. (settled v l).stars.along v s w (from_root t sound v l v here);
    inside = λ v s w l h.
        reach_below t sound (root_below t sound v l) ((settled v l).stars.inside v s w (from_root t sound v l v here) h);
    small = λ v s l. (settled v l).stars.small v s (from_root t sound v l v here);
  }

  pub groups : (i j k : ℕ) → i < t.count → j < t.count → k < t.count
      → Trio (layout_of t near) i j k ↔ (star_trio (star t near) i j k ≡ true)
  groups = numbering_groups sound whole_stars

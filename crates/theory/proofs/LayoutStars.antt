-- A layout of a cluster gives a system of stars, and three baselines have a common imager just where they have a common star.
use Rattle.std.proofs.Common.{◌≡◌, ℕ, ◌^◌, ◌<◌, ◌≤◌, Bool, true, false, not, ◌&&◌, ◌||◌, eqb, ltb, ◌↔◌, sym, ap, ◌∙◌, subst, ⊎_elim}
use Rattle.std.proofs.lemmas.Bool.{and_parts, and_left, eq-eqb, ne_eqb, cases_Bool, cases_eq, cases_lt, lt-ltb, le-ltb, both_ways, false_from_ne_true}
use Rattle.bitset.specs.Sets.{has, set_of}
use Rattle.bitset.proofs.Members.{has_set_of, set_of_lt, same_set, has_past}
use Rattle.evidence.specs.Table.{Table, Sound}
use Rattle.theory.specs.Layout.{Ends, stands, LayoutOn}
use Rattle.theory.specs.Groups.{Trio, has_trio}
use Rattle.theory.specs.Clusters.{Reach, step}
use Rattle.theory.specs.Stars.{far, Stars, star_trio}
use Rattle.theory.specs.Walks.{cluster}
use Rattle.theory.proofs.Ends.{end_at, stands_end, end_side, one_end}
use Rattle.theory.proofs.Trios.{trio_test}
use Rattle.theory.proofs.Reaches.{reach_lt}
use Rattle.theory.proofs.Walks.{walk_cluster, cluster_lt}
use Rattle.theory.proofs.StarFacts.{far_has, far_lt}

-- the star of imager a: the baselines of the cluster of r that it is at
unfoldable pub star_at : Table → ℕ → (ℕ → Ends) → ℕ → ℕ
star_at t r e a = set_of (λ i. has (cluster t r) i && stands a (e i)) 64

-- the stars that a layout gives to the baselines of the cluster of r
abbrev pub layout_star : Table → ℕ → (ℕ → Ends) → ℕ → Bool → ℕ
layout_star t r e v s = star_at t r e (end_at (e v) s)

module _ (t : Table) (sound : Sound t) (r : ℕ) (below : r < t.count) {e : ℕ → Ends} (fits : LayoutOn t (Reach t r) e) where
  -- the star of a holds what is in the cluster and at a
  star_at_has : (a i : ℕ) → has (star_at t r e a) i ≡ (has (cluster t r) i && stands a (e i))
  unfolding star_at
  star_at_has a i = has_set_of (λ j. has (cluster t r) j && stands a (e j)) 64 i ∙ ⊎_elim low past (cases_lt i 64)
    where
      low : i < 64 → (ltb i 64 && (has (cluster t r) i && stands a (e i))) ≡ (has (cluster t r) i && stands a (e i))
      low l = simp (lt-ltb i 64 l)

      past : 64 ≤ i → (ltb i 64 && (has (cluster t r) i && stands a (e i))) ≡ (has (cluster t r) i && stands a (e i))
      past l = simp (le-ltb i 64 l, has_past 64 (cluster t r) i (cluster_lt t sound r below) l)

  -- it is a set of baselines
  star_at_lt : (a : ℕ) → star_at t r e a < 2 ^ 64
  unfolding star_at
  star_at_lt a = set_of_lt (λ i. has (cluster t r) i && stands a (e i)) 64

  -- of the cluster it holds what is at a
  star_at_in : (a i : ℕ) → Reach t r i → has (star_at t r e a) i ≡ stands a (e i)
  star_at_in a i c = star_at_has a i ∙ ap (λ x. x && stands a (e i)) ((walk_cluster t sound r below i).1 c)

  -- at the other end of v stands what shares with v and is not at the one end
  other_end : (v : ℕ) (s : Bool) (i : ℕ) → Reach t r v → Reach t r i
      → (eqb v i || (t.shares v i && not (stands (end_at (e v) s) (e i)))) ≡ stands (end_at (e v) (not s)) (e i)
  other_end v s i cv ci = ⊎_elim same apart (cases_eq v i)
    where
      same : v ≡ i → (eqb v i || (t.shares v i && not (stands (end_at (e v) s) (e i)))) ≡ stands (end_at (e v) (not s)) (e i)
      same p =
          ap (λ x. x || (t.shares v i && not (stands (end_at (e v) s) (e i)))) (eq-eqb v i p)
          ∙ sym (ap (λ x. stands (end_at (e v) (not s)) (e x)) (sym p) ∙ stands_end (e v) (not s))

      apart : (v ≡ i → ⊥) → (eqb v i || (t.shares v i && not (stands (end_at (e v) s) (e i)))) ≡ stands (end_at (e v) (not s)) (e i)
      apart p =
          ap (λ x. x || (t.shares v i && not (stands (end_at (e v) s) (e i)))) (ne_eqb v i p)
          ∙ sym (one_end fits v i cv ci p s).1

  -- what is not in the cluster shares with none of it
  outside : (v i : ℕ) → Reach t r v → has (cluster t r) i ≡ false → (eqb v i ≡ false) × (t.shares v i ≡ false)
  outside v i c out =
      let away : Reach t r i → ⊥ = λ d. both_ways _ out ((walk_cluster t sound r below i).1 d) in
      (ne_eqb v i (λ p. away (subst (Reach t r) p c)), false_from_ne_true (t.shares v i) (λ h. away (step c h)))

  -- the two stars of a baseline are each other's other
  star_at_other : (v : ℕ) (s : Bool) → Reach t r v → far t v (layout_star t r e v s) ≡ layout_star t r e v (not s)
  star_at_other v s c =
      same_set 64 _ _ (far_lt t v _ (reach_lt t sound below c)) (star_at_lt (end_at (e v) (not s)))
      (λ i l. far_has sound v _ i ∙ ⊎_elim (members i) (others i) (cases_Bool (has (cluster t r) i)))
    where
      members : (i : ℕ) → has (cluster t r) i ≡ true
          → (eqb v i || (t.shares v i && not (has (layout_star t r e v s) i))) ≡ has (layout_star t r e v (not s)) i
      members i h =
          let d = (walk_cluster t sound r below i).0 h in
          simp (star_at_in (end_at (e v) s) i d, star_at_in (end_at (e v) (not s)) i d) (other_end v s i c d)

      others : (i : ℕ) → has (cluster t r) i ≡ false
          → (eqb v i || (t.shares v i && not (has (layout_star t r e v s) i))) ≡ has (layout_star t r e v (not s)) i
      others i h = let x = outside v i c h in simp (x.0, x.1) (sym (star_at_has (end_at (e v) (not s)) i ∙ and_left _ _ h))

  -- the layout gives a system of stars
  pub layout_stars : Stars t (Reach t r) (layout_star t r e)
  layout_stars = record {
    other = star_at_other;
    along = λ v s w c h.
        let x = end_side (e w) _ (and_parts _ _ (sym (star_at_has _ w) ∙ h)).1 in
        (x.0, ap (star_at t r e) x.1);
    inside = λ v s w c h. (walk_cluster t sound r below w).0 (and_parts _ _ (sym (star_at_has _ w) ∙ h)).0;
    small = λ v s c. star_at_lt (end_at (e v) s);
  }

  -- three baselines of the cluster have a common imager just where they have a common star
  pub layout_trio : (i j k : ℕ) → Reach t r j → Reach t r k → Trio e i j k ↔ (star_trio (layout_star t r e) i j k ≡ true)
  layout_trio i j k cj ck = (λ h. same ∙ (trio_test e i j k).0 h, λ h. (trio_test e i j k).1 (sym same ∙ h))
    where
      same : star_trio (layout_star t r e) i j k ≡ has_trio e i j k
      same = simp (star_at_in (e i).0 j cj, star_at_in (e i).0 k ck, star_at_in (e i).1 j cj, star_at_in (e i).1 k ck)

-- The search on one cluster is right: the starts that pass are the layouts of the cluster, the preferred one first.
use Rattle.std.proofs.Common.{◌≡◌, ℕ, ◌^◌, ◌<◌, ◌≤◌, Bool, true, ◌≢◌, ◌↔◌, List, ◌∷◌, Option, sym, refl, ◌∙◌, subst, ⊎_elim, arith}
use mathlib.Core.List.{Memᴰ}
use Rattle.std.proofs.lemmas.Bool.{both_ways}
use Rattle.evidence.specs.Table.{Table, Sound}
use Rattle.theory.specs.Layout.{Ends, LayoutOn}
use Rattle.theory.specs.Groups.{Three, Trio}
use Rattle.theory.specs.Clusters.{Reach, here}
use Rattle.theory.specs.Stars.{star, Stars, star_trio}
use Rattle.theory.specs.Search.{first, attempt, passes, passing}
use Rattle.theory.proofs.Reaches.{reach_lt}
use Rattle.theory.proofs.Walks.{walk_steps, walk_cluster}
use Rattle.theory.proofs.LayoutStars.{layout_stars, layout_trio}
use Rattle.theory.proofs.Spread.{handed_lt, spread_start, spread_handed, spread_star}
use Rattle.theory.proofs.Verify.{verified_stars, stars_verified}
use Rattle.theory.proofs.Firsts.{first_lt}
use Rattle.theory.proofs.Starts.{start_of}
use Rattle.theory.proofs.SameStart.{same_trio}
use Rattle.theory.proofs.Prefer.{Earlier, earlier_cases, Preferred, earlier_preferred}
use Rattle.theory.proofs.Passing.{Ordered, passing_start, passing_member, passing_ordered}

-- two systems of stars differ on three different baselines of the cluster of r
pub record Differ (t : Table) (r : ℕ) (one two : ℕ → Bool → ℕ) : Type 0 where
  pub three : Three
  pub in_cluster : Reach t r three.0 × Reach t r three.1 × Reach t r three.2
  pub apart : (three.0 ≢ three.1) × (three.1 ≢ three.2) × (three.0 ≢ three.2)
  pub differ : star_trio one three.0 three.1 three.2 ≢ star_trio two three.0 three.1 three.2

-- where one is preferred to the other they differ, in either order
preferred_differ : {t : Table} {r : ℕ} {one two : ℕ → Bool → ℕ} → Preferred t r one two → Differ t r one two
preferred_differ p =
    let l = p.rising in
    record {
      three = p.three;
      in_cluster = p.in_cluster;
      apart = (λ e. omega arith, λ e. omega arith, λ e. omega arith);
      differ = λ e. both_ways _ p.theirs (sym e ∙ p.ours);
    }

differ_back : {t : Table} {r : ℕ} {one two : ℕ → Bool → ℕ} → Differ t r one two → Differ t r two one
differ_back d = record { three = d.three; in_cluster = d.in_cluster; apart = d.apart; differ = λ e. d.differ (sym e) }

module _ (t : Table) (sound : Sound t) (r : ℕ) (below : r < t.count) where
  -- the near star of r is the first star
  pub attempt_start : (x : Option ℕ) → attempt t r x r ≡ first t r x
  attempt_start x = spread_start t r (first t r x) (walk_steps t sound r below)

  -- the near stars of the cluster are sets of baselines
  pub attempt_lt : (x : Option ℕ) (v : ℕ) → Reach t r v → attempt t r x v < 2 ^ 64
  attempt_lt x v c =
      handed_lt sound (first_lt t sound r x (reach_lt t sound below here)) v
      (spread_handed t r (first t r x) (walk_steps t sound r below) v ((walk_cluster t sound r below v).1 c))

  -- what a start that passes gives is a system of stars
  pub pass_stars : (x : Option ℕ) → passes t r x ≡ true → Stars t (Reach t r) (star t (attempt t r x))
  pass_stars x p = verified_stars t sound r below (attempt t r x) (attempt_lt x) p

  -- so is what each start of the list gives
  pub member_stars : (x : Option ℕ) → Memᴰ x (passing t r) → Stars t (Reach t r) (star t (attempt t r x))
  member_stars x m = pass_stars x (passing_start t sound r x m).1

  -- the start of a system of stars passes
  pub stars_pass : {st : ℕ → Bool → ℕ} → Stars t (Reach t r) st → (q : Bool) (x : Option ℕ) → st r q ≡ first t r x → passes t r x ≡ true
  stars_pass good q x e =
      stars_verified t sound r below (attempt t r x) good
      (λ v c. spread_star sound good q here (sym e) (walk_steps t sound r below) v ((walk_cluster t sound r below v).1 c))

  -- every system of stars has the threes of a start that passes
  pub stars_member : {st : ℕ → Bool → ℕ} → Stars t (Reach t r) st
      → (x : Option ℕ) × Memᴰ x (passing t r)
      × ((i j k : ℕ) → Reach t r i → star_trio st i j k ≡ star_trio (star t (attempt t r x)) i j k)
  stars_member good =
      let s = start_of t sound r (reach_lt t sound below here) good in
      let x = s.1 in
      let m = passing_member t sound r x s.2 (stars_pass good s.0 x s.3) in
      (x, m, same_trio sound good (member_stars x m) s.0 true (s.3 ∙ sym (attempt_start x)))

  -- every layout of the cluster has the threes of a start that passes
  pub layout_member : {e : ℕ → Ends} → LayoutOn t (Reach t r) e
      → (x : Option ℕ) × Memᴰ x (passing t r)
      × ((i j k : ℕ) → Reach t r i → Reach t r j → Reach t r k → Trio e i j k ↔ (star_trio (star t (attempt t r x)) i j k ≡ true))
  layout_member fits =
      let z = stars_member (layout_stars t sound r below fits) in (
        z.0,
        z.1,
        λ i j k ci cj ck.
            let trio = layout_trio t sound r below fits i j k cj ck in
            let same = z.2 i j k ci in
            (λ h. sym same ∙ trio.0 h, λ h. trio.1 (same ∙ h)),
      )

  module _ (root : (j : ℕ) → Reach t r j → r ≤ j) where
    -- of two starts that pass, the earlier one is preferred
    earlier_member : (x y : Option ℕ) → Memᴰ x (passing t r) → Memᴰ y (passing t r) → Earlier x y
        → Preferred t r (star t (attempt t r x)) (star t (attempt t r y))
    earlier_member x y m n before =
        earlier_preferred sound root (member_stars x m) (member_stars y n) x y (passing_start t sound r y n).0 before
        true true (attempt_start x) (attempt_start y)

    -- the first start that passes is preferred to every other
    pub head_preferred : (x : Option ℕ) (xs : List (Option ℕ)) → passing t r ≡ x ∷ xs → (y : Option ℕ) → Memᴰ y xs
        → Preferred t r (star t (attempt t r x)) (star t (attempt t r y))
    head_preferred x xs e y m =
        earlier_member x y
        (subst (Memᴰ x) (sym e) (Memᴰ.head refl)) (subst (Memᴰ y) (sym e) (Memᴰ.tail m))
        ((subst Ordered e (passing_ordered t sound r)).0 y m)

    -- two different starts that pass differ on three baselines
    pub members_differ : (x y : Option ℕ) → Memᴰ x (passing t r) → Memᴰ y (passing t r) → x ≢ y
        → Differ t r (star t (attempt t r x)) (star t (attempt t r y))
    members_differ x y m n ne =
        ⊎_elim
        (λ b. preferred_differ (earlier_member x y m n b))
        (λ b. differ_back (preferred_differ (earlier_member y x n m b)))
        (earlier_cases x y ne)

-- The places of the stars number the imagers of a layout.
use Rattle.std.proofs.Common.{◌≡◌, ℕ, ◌+◌, ◌<◌, ◌≤◌, Bool, true, false, not, ◌&&◌, ◌||◌, ◌≢◌, ◌↔◌, List, length, sym, ap, ◌∙◌, ap₂, subst₂, ⊎_elim, arith}
use Rattle.std.proofs.lemmas.Bool.{ne_eqb}
use Rattle.std.proofs.lemmas.Bool.Decides.{nat_tests}
use Rattle.bitset.specs.Sets.{has}
use Rattle.evidence.specs.Table.{Table, Sound}
use Rattle.theory.specs.Layout.{stands, in_common, Layout}
use Rattle.theory.specs.Groups.{Trio, has_trio}
use Rattle.theory.specs.Numbers.{Ahead, baselines_at, Numbered}
use Rattle.theory.specs.Stars.{Stars, star, star_trio}
use Rattle.theory.specs.Imagers.{all_stars, layout_of}
use Rattle.theory.proofs.StarFacts.{star_has, star_self}
use Rattle.theory.proofs.Trios.{trio_tested, tested_trio}
use Rattle.theory.proofs.Order.{ahead_equal, ahead_first, same_list}
use Rattle.theory.proofs.Places.{one, nth_star}
use Rattle.theory.proofs.Held.{two_places, stars_at_ends}
use Rattle.theory.proofs.Begun.{begun_at}
use Rattle.theory.proofs.Sorted.{rank, rank_rises}
use Rattle.theory.proofs.Ranks.{DiffersFirst, Compared, rank_compares}

-- what shares is in one of two parts, and what does not is in none
in_parts : (x y r d : Bool) → d ≡ false → x ≡ (d || (r && not y)) → y ≡ (d || (r && not x)) → one x + one y ≡ one r
in_parts x y r d h k l = grind (arith, nat_tests)

-- as many tests passed: one is in both cases, or in neither
same_or : (x y u v : Bool) → one x + one y ≡ one u + one v → (x || y) ≡ (u || v)
same_or x y u v h = grind (arith, nat_tests)

module _ {t : Table} (sound : Sound t) {near : ℕ → ℕ} (good : Stars t (λ v. v < t.count) (star t near)) where
  -- an imager is at the baselines of its star
  pub stands_star : (a i : ℕ) → a < length (all_stars t near) → i < t.count
      → stands a (layout_of t near i) ≡ has (nth_star (all_stars t near) a) i
  stands_star a i la li = sym ((two_places sound good i li).at a la)

  -- the ends are told lower first, and are below the number of imagers
  ends_below : (i : ℕ) → i < t.count
      → ((layout_of t near i).0 < (layout_of t near i).1) × ((layout_of t near i).1 < length (all_stars t near))
  ends_below i l = let x = two_places sound good i l in (x.rises, x.below)

  -- the ends of i are at the baselines of their stars
  stands_ends : (i j : ℕ) → i < t.count → j < t.count
      → (stands (layout_of t near i).0 (layout_of t near j) ≡ has (nth_star (all_stars t near) (layout_of t near i).0) j)
      × (stands (layout_of t near i).1 (layout_of t near j) ≡ has (nth_star (all_stars t near) (layout_of t near i).1) j)
  stands_ends i j li lj =
      let x = ends_below i li in (stands_star _ j (omega arith) lj, stands_star _ j (omega arith) lj)

  -- the places of the stars are a layout
  pub numbering_fits : Layout t (layout_of t near)
  numbering_fits = record { different = λ i l h. omega (arith, ends_below i l); meets = meet }
    where
      shared : (i j : ℕ) → i < t.count → i ≢ j
          → one (has (star t near i true) j) + one (has (star t near i false) j) ≡ one (t.shares i j)
      shared i j li ij = in_parts _ _ _ _ (ne_eqb i j ij) (star_has sound good i true j li) (star_has sound good i false j li)

      meet : (i j : ℕ) → i < t.count → j < t.count → i ≢ j → in_common (layout_of t near i) (layout_of t near j) ≡ one (t.shares i j)
      meet i j li lj ij =
          let x = stands_ends i j li lj in
          ap₂ (λ x y. one x + one y) x.0 x.1 ∙ stars_at_ends sound good (λ a. has a j) i li ∙ shared i j li ij

  -- the test of a common imager passes where the test of a common star does
  pub numbering_trio : (i j k : ℕ) → i < t.count → j < t.count → k < t.count
      → has_trio (layout_of t near) i j k ≡ star_trio (star t near) i j k
  numbering_trio i j k li lj lk =
      let x = stands_ends i j li lj in
      let y = stands_ends i k li lk in
      ap₂ ◌||◌ (ap₂ ◌&&◌ x.0 y.0) (ap₂ ◌&&◌ x.1 y.1)
      ∙ same_or _ _ _ _ (stars_at_ends sound good (λ a. has a j && has a k) i li)

  -- three have a common imager just where they have a common star
  pub numbering_groups : (i j k : ℕ) → i < t.count → j < t.count → k < t.count
      → Trio (layout_of t near) i j k ↔ (star_trio (star t near) i j k ≡ true)
  numbering_groups i j k li lj lk =
      let e = numbering_trio i j k li lj lk in
      (λ h. sym e ∙ trio_tested (layout_of t near) i j k h, λ h. tested_trio (layout_of t near) i j k (e ∙ h))

  -- and the imagers have the numbers below the length of the list, in their order
  pub numbering_numbered : Numbered t.count (layout_of t near) (length (all_stars t near))
  numbering_numbered = record { told = ends_below; used = used; order = order }
    where
      used : (a : ℕ) → a < length (all_stars t near) → (i : ℕ) × (i < t.count) × (stands a (layout_of t near i) ≡ true)
      used a l =
          let b = begun_at t near t.count a l in (
            b.at,
            b.below,
            stands_star a b.at l b.below ∙ ap (λ c. has c b.at) b.is ∙ star_self sound good b.at b.side b.below,
          )

      list : ℕ → List ℕ
      list = baselines_at t.count (layout_of t near)

      order : (a b : ℕ) → a < b → b < length (all_stars t near) → Ahead (list a) (list b)
      order a b h l = ⊎_elim same differ compared
        where
          la : a < length (all_stars t near)
          la = omega arith

          star_a : ℕ
          star_a = nth_star (all_stars t near) a

          star_b : ℕ
          star_b = nth_star (all_stars t near) b

          compared : Compared t.count star_a star_b
          compared =
              let x = begun_at t near t.count a la in
              let y = begun_at t near t.count b l in
              subst₂ (Compared t.count) (sym x.is) (sym y.is)
              (rank_compares sound good x.at y.at x.side y.side x.below y.below
              (subst₂ (λ c d. rank c ≤ rank d) x.is y.is (rank_rises t near t.count a b h l)))

          same : ((i : ℕ) → i < t.count → has star_a i ≡ has star_b i) → Ahead (list a) (list b)
          same e =
              ahead_equal (list a) (list b) (same_list t.count (layout_of t near) (layout_of t near) a b
              (λ i li. stands_star a i la li ∙ e i li ∙ sym (stands_star b i l li)))

          differ : DiffersFirst t.count star_a star_b → Ahead (list a) (list b)
          differ d =
              let below = d.below in
              ahead_first t.count (layout_of t near) (layout_of t near) a b d.at below
              (stands_star a d.at la below ∙ d.first) (stands_star b d.at l below ∙ d.not_second)
              (λ j lj. stands_star a j la (omega arith) ∙ d.before j lj ∙ sym (stands_star b j l (omega arith)))

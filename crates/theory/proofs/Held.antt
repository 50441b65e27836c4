-- Of the stars of all imagers two hold each baseline: its own two.
use Rattle.std.proofs.Common.{◌≡◌, ℕ, zero, suc, ◌+◌, ◌<◌, ◌≤◌, Bool, true, false, ◌&&◌, eqb, ltb, sym, ◌∙◌, ap₂, ⊎_elim, arith}
use Rattle.std.proofs.lemmas.List.Sums.{sum_by-append}
use Rattle.std.proofs.lemmas.Bool.{both_ways, cases_lt, lt-ltb, le-ltb}
use Rattle.std.proofs.lemmas.Bool.Decides.{nat_tests}
use Rattle.bitset.specs.Sets.{has, lowest}
use Rattle.evidence.specs.Table.{Table, Sound}
use Rattle.theory.specs.Stars.{Stars, star}
use Rattle.theory.specs.Imagers.{begins, imagers, all_stars, layout_of}
use Rattle.theory.proofs.StarFacts.{star_self}
use Rattle.theory.proofs.Places.{holding, any, one, nth_star, Twice, twice_of}
use Rattle.theory.proofs.Begins.{picked, picked_none, star_two, begins_holding}

-- a star that begins below w + 1 begins below w or at w
one_more : (l w : ℕ) (x : Bool) → one (ltb l w && x) + one (eqb l w && x) ≡ one (ltb l (suc w) && x)
one_more l w x = grind (arith, nat_tests)

-- four counts, added in another order
four : (a b c d x y : ℕ) → a + c ≡ x → b + d ≡ y → a + b + (c + d) ≡ x + y
four a b c d x y h k = omega arith

module _ {t : Table} (sound : Sound t) {near : ℕ → ℕ} (good : Stars t (λ v. v < t.count) (star t near)) where
  -- of the stars that begin below w, those that hold i are the stars of i that begin below w
  imagers_holding : (test : ℕ → Bool) (i w : ℕ) → i < t.count → w ≤ t.count
      → holding test i (imagers t near w) ≡ picked test (λ s. ltb (lowest (star t near i s)) w) (star t near i)
  unfolding imagers
  imagers_holding test i zero li lw =
      sym (picked_none test (λ s. ltb (lowest (star t near i s)) 0) (star t near i) (λ s. le-ltb _ 0 (omega arith)))
  imagers_holding test i (suc w) li lw =
      sum_by-append (λ a. one (test a && has a i)) (imagers t near w) (begins t near w)
      ∙ ap₂ ◌+◌ (imagers_holding test i w li (omega arith)) (begins_holding sound good test i w li (omega arith))
      ∙ four (one (ltb (low true) w && pass true)) (one (ltb (low false) w && pass false))
      (one (eqb (low true) w && pass true)) (one (eqb (low false) w && pass false)) _ _
      (one_more (low true) w (pass true)) (one_more (low false) w (pass false))
    where
      low : Bool → ℕ
      low s = lowest (star t near i s)

      pass : Bool → Bool
      pass s = test (star t near i s)

  -- a star of i begins at i or below
  begins_le : (i : ℕ) (s : Bool) → i < t.count → lowest (star t near i s) ≤ i
  begins_le i s l =
      ⊎_elim
      (λ h. absurd (both_ways _ ((star_two sound good i s l).low.least i h) (star_self sound good i s l)))
      (λ h. h)
      (cases_lt i (lowest (star t near i s)))

  -- of all stars, those that hold i are its own two
  all_holding : (test : ℕ → Bool) (i : ℕ) → i < t.count
      → holding test i (all_stars t near) ≡ one (test (star t near i true)) + one (test (star t near i false))
  all_holding test i l =
      imagers_holding test i t.count l (omega arith)
      ∙ ap₂ (λ x y. one (x && test (star t near i true)) + one (y && test (star t near i false))) (below true) (below false)
    where
      below : (s : Bool) → ltb (lowest (star t near i s)) t.count ≡ true
      below s = lt-ltb _ _ (omega (arith, begins_le i s l))

  -- so each baseline has two places
  pub two_places : (i : ℕ) → i < t.count → Twice i (all_stars t near) (layout_of t near i)
  two_places i l = twice_of i (all_stars t near) (all_holding any i l)

  -- and at them stand its two stars, in either order
  pub stars_at_ends : (test : ℕ → Bool) (i : ℕ) → i < t.count
      → one (test (nth_star (all_stars t near) (layout_of t near i).0))
      + one (test (nth_star (all_stars t near) (layout_of t near i).1))
      ≡ one (test (star t near i true)) + one (test (star t near i false))
  stars_at_ends test i l = sym ((two_places i l).tests test) ∙ all_holding test i l

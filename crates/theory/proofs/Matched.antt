-- Layouts of a table that group alike have the same two imagers at each baseline, told by the baselines that they are at.
use Rattle.std.proofs.Common.{◌≡◌, ℕ, ◌<◌, Bool, true, false, not, ◌&&◌, ◌||◌, ◌≢◌, ◌⊎◌, sym, refl, ap, ◌∙◌, subst, inl, inr, ⊎_elim, arith}
use mathlib.Core.Bool.{or_comm}
use Rattle.std.proofs.lemmas.Bool.{cases_eq}
use Rattle.std.proofs.lemmas.Bool.Decides.{nat_tests}
use Rattle.evidence.specs.Table.{Table}
use Rattle.theory.specs.Layout.{Ends, stands, Layout}
use Rattle.theory.specs.Groups.{has_trio, GroupAlike}
use Rattle.theory.proofs.Below.{all_or_some}
use Rattle.theory.proofs.Ends.{end_at, both_stand, one_or_other, one_end}
use Rattle.theory.proofs.Alike.{alike_trio}

-- Imager a of e and imager b of f are at the same baselines below n.
abbrev pub Same : ℕ → (ℕ → Ends) → (ℕ → Ends) → ℕ → ℕ → Type 0
Same n e f a b = (j : ℕ) → j < n → stands a (e j) ≡ stands b (f j)

-- the test of a common imager, told by the ends of the first in either order
trio_ends : (e : ℕ → Ends) (i j k : ℕ) (s : Bool)
    → has_trio e i j k ≡ ((stands (end_at (e i) s) (e j) && stands (end_at (e i) s) (e k))
    || (stands (end_at (e i) (not s)) (e j) && stands (end_at (e i) (not s)) (e k)))
trio_ends e i j k true = refl
trio_ends e i j k false =
    or_comm (stands (e i).0 (e j) && stands (e i).0 (e k)) (stands (e i).1 (e j) && stands (e i).1 (e k))

-- where j is at the one end in e or at the lower end in f, and not at both, it is at the one in e just where it is at the higher in f,
-- and so is k, if three baselines with a common imager are the same in both
crossed_one : (p p' q q' r : Bool) → p ≡ (r && not p') → q ≡ (r && not q') → q' ≡ (r && not q) → p ≡ not q → p ≡ q'
crossed_one p p' q q' r h k l d = grind (arith, nat_tests)

crossed_two : (p p' q q' r x x' y y' s : Bool)
    → p ≡ (r && not p') → p' ≡ (r && not p) → q ≡ (r && not q') → q' ≡ (r && not q) → p ≡ not q
    → x ≡ (s && not x') → y' ≡ (s && not y)
    → ((p && x) || (p' && x')) ≡ ((q && y) || (q' && y'))
    → x ≡ y'
crossed_two p p' q q' r x x' y y' s h h' k k' d l m e = grind (arith, nat_tests)

module _ (t : Table) (e f : ℕ → Ends) (fits_e : Layout t e) (fits_f : Layout t f) where
  -- where one end of i is at the same baselines in both layouts, so is the other end
  rest_same : (i : ℕ) → i < t.count → (s q : Bool) → Same t.count e f (end_at (e i) s) (end_at (f i) q)
      → Same t.count e f (end_at (e i) (not s)) (end_at (f i) (not q))
  rest_same i li s q same j lj =
      ⊎_elim
      (both_stand e f i j (not s) (not q))
      (λ ij. (one_end fits_e i j li lj ij s).1
      ∙ ap (λ x. t.shares i j && not x) (same j lj)
      ∙ sym (one_end fits_f i j li lj ij q).1)
      (cases_eq i j)

  module _ (alike : GroupAlike t.count e f) (i : ℕ) (li : i < t.count) where
    -- where some baseline is at the one end of i in e or at the lower end of i in f, and not at both,
    -- the one end in e has the baselines of the higher end in f
    crossed_same : (s : Bool) (j : ℕ) → j < t.count → i ≢ j → stands (end_at (e i) s) (e j) ≡ not (stands (end_at (f i) true) (f j))
        → Same t.count e f (end_at (e i) s) (end_at (f i) false)
    crossed_same s j lj ij d k lk = ⊎_elim (both_stand e f i k s false) (λ ik. ⊎_elim (equal ik) (apart ik) (cases_eq j k)) (cases_eq i k)
      where
        equal : i ≢ k → j ≡ k → stands (end_at (e i) s) (e k) ≡ stands (end_at (f i) false) (f k)
        equal ik p =
            let x = one_end fits_e i k li lk ik s in
            let y = one_end fits_f i k li lk ik true in
            crossed_one _ _ _ _ _ x.0 y.0 y.1 (subst (λ l. stands (end_at (e i) s) (e l) ≡ not (stands (end_at (f i) true) (f l))) p d)

        apart : i ≢ k → j ≢ k → stands (end_at (e i) s) (e k) ≡ stands (end_at (f i) false) (f k)
        apart ik jk =
            let x = one_end fits_e i j li lj ij s in
            let y = one_end fits_f i j li lj ij true in
            let u = one_end fits_e i k li lk ik s in
            let v = one_end fits_f i k li lk ik true in
            crossed_two _ _ _ _ _ _ _ _ _ (t.shares i k) x.0 x.1 y.0 y.1 d u.0 v.1
            (sym (trio_ends e i j k s) ∙ alike_trio t.count e f alike i j k li lj lk ij ik jk ∙ trio_ends f i j k true)

    -- each end of i in the one layout is at the same baselines as an end of i in the other
    some_same : (s : Bool) → (q : Bool) × Same t.count e f (end_at (e i) s) (end_at (f i) q)
    some_same s =
        ⊎_elim
        (λ all. (true, all))
        (λ x. (false, crossed_same s x.0 x.1 x.2.0 x.2.1))
        (all_or_some Straight Crossed t.count (λ j lj. look j (cases_eq i j)))
      where
        Straight : ℕ → Type 0
        Straight j = stands (end_at (e i) s) (e j) ≡ stands (end_at (f i) true) (f j)

        Crossed : ℕ → Type 0
        Crossed j = (i ≢ j) × (stands (end_at (e i) s) (e j) ≡ not (stands (end_at (f i) true) (f j)))

        look : (j : ℕ) → (i ≡ j) ⊎ (i ≢ j) → Straight j ⊎ Crossed j
        look j (inl h) = inl (both_stand e f i j s true h)
        look j (inr h) = ⊎_elim inl (λ d. inr (h, d)) (one_or_other _ _)

    -- and so are the two other ends
    pub both_same : (s : Bool) → (q : Bool)
        × Same t.count e f (end_at (e i) s) (end_at (f i) q)
        × Same t.count e f (end_at (e i) (not s)) (end_at (f i) (not q))
    both_same s = let x = some_same s in (x.0, x.1, rest_same i li s x.0 x.1)

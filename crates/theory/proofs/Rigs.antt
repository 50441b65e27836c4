-- The worked rigs: the search finds each outcome, so the definitions yield it.
use Rattle.std.proofs.Common.{◌≡◌, ℕ, ◌≤◌, Bool, true, false, not, ◌&&◌, eqb, ltb, List, [], ◌∷◌, get_or, Some, None, Option, sym, refl, ap, subst, ap₂, arith}
use mathlib.Core.Bool.{beq}
use lib.Count.{count_trailing_zeros}
use Rattle.std.proofs.lemmas.Bool.{and_parts, or_from, ltb-true, eqb-true, both_ways}
use Rattle.std.proofs.lemmas.Bool.Decides.{nat_tests}
use Rattle.bitset.specs.Sets.{has, minus, set_of}
use Rattle.evidence.specs.Table.{Table, Sound}
use Rattle.evidence.specs.Changes.{is_pair}
use Rattle.theory.specs.Layout.{Ends}
use Rattle.theory.specs.Placed.{Solved}
use Rattle.theory.specs.Stars.{row, far}
use Rattle.theory.specs.Walks.{fringe, meet, walk_on, walk}
use Rattle.theory.specs.Search.{all, between, first, handed, spread, agreed, fits_at, verified, passing_below, passing}
use Rattle.theory.specs.Imagers.{second, begun_by, begins, imagers, place, second_place}
use Rattle.theory.specs.Answer.{near_of, contested, lowest_that, unsettled, found}
use Rattle.theory.specs.Rigs.{Outcome, placed, clash, Rig, among, table_of, Yields, worked, EveryYields}
use Rattle.theory.proofs.Verify.{all_tells}
use Rattle.theory.proofs.SameAnswer.{solved_same}
use Rattle.theory.proofs.Searched.{search_right}

-- ---- the pairs of a rig make a sound table

-- each pair is of two different baselines below n
fair : ℕ → List (ℕ × ℕ) → Bool
fair n [] = true
fair n (p ∷ pairs) = (ltb p.0 n && (ltb p.1 n && not (eqb p.0 p.1))) && fair n pairs

among_alike : (pairs : List (ℕ × ℕ)) (i j : ℕ) → among pairs i j ≡ among pairs j i
among_alike [] i j = refl
among_alike (p ∷ pairs) i j = let e = turned i j p.0 p.1 in let h = among_alike pairs i j in cc
  where
    turned : (i j a b : ℕ) → is_pair i j a b ≡ is_pair j i a b
    turned i j a b = grind (arith, nat_tests)

not_pair_itself : (i n a b : ℕ) → (ltb a n && (ltb b n && not (eqb a b))) ≡ true → is_pair i i a b ≡ false
not_pair_itself i n a b h = grind (arith, nat_tests)

not_pair_past : (i j n a b : ℕ) → n ≤ i → (ltb a n && (ltb b n && not (eqb a b))) ≡ true → is_pair i j a b ≡ false
not_pair_past i j n a b l h = grind (arith, nat_tests)

among_apart : (n : ℕ) (pairs : List (ℕ × ℕ)) (i : ℕ) → fair n pairs ≡ true → among pairs i i ≡ false
unfolding fair
among_apart n [] i h = refl
among_apart n (p ∷ pairs) i h =
    let x = and_parts _ _ h in or_from _ _ (not_pair_itself i n p.0 p.1 x.0) (among_apart n pairs i x.1)

among_within : (n : ℕ) (pairs : List (ℕ × ℕ)) (i j : ℕ) → n ≤ i → fair n pairs ≡ true → among pairs i j ≡ false
unfolding fair
among_within n [] i j l h = refl
among_within n (p ∷ pairs) i j l h =
    let x = and_parts _ _ h in or_from _ _ (not_pair_past i j n p.0 p.1 l x.0) (among_within n pairs i j l x.1)

rig_sound : (rig : Rig) → ltb rig.count 65 ≡ true → fair rig.count rig.sharing ≡ true → Sound (table_of rig)
rig_sound rig few h = record {
  few = omega (arith, ltb-true _ _ few);
  alike = among_alike rig.sharing;
  apart = λ i. among_apart rig.count rig.sharing i h;
  within = λ i j l. among_within rig.count rig.sharing i j l h;
}

-- ---- the search finds the outcome

is_none : Option ℕ → Bool
is_none None = true
is_none (Some i) = false

is_some_of : ℕ → Option ℕ → Bool
is_some_of j None = false
is_some_of j (Some i) = eqb i j

-- the answer for baseline i is as told
told_at : Table → List Ends → Bool → ℕ → Bool
told_at t ends doubtful i =
    (eqb ((found t).ends i).0 (get_or ends i (0, 0)).0 && eqb ((found t).ends i).1 (get_or ends i (0, 0)).1)
    && beq ((found t).doubtful i) doubtful

finds : Table → Outcome → Bool
finds t (placed imagers ends doubtful) =
    (is_none (unsettled t) && eqb (found t).imagers imagers) && all (told_at t ends doubtful) t.count
finds t (clash i) = is_some_of i (unsettled t)

checked : Rig → Bool
checked rig = (ltb rig.count 65 && fair rig.count rig.sharing) && finds (table_of rig) rig.outcome

all_checked : List Rig → Bool
all_checked [] = true
all_checked (rig ∷ rigs) = checked rig && all_checked rigs

none_is : (o : Option ℕ) → is_none o ≡ true → o ≡ None
unfolding is_none
none_is None h = refl
none_is (Some i) h = absurd (both_ways _ refl h)

some_is : (j : ℕ) (o : Option ℕ) → is_some_of j o ≡ true → o ≡ Some j
unfolding is_some_of
some_is j None h = absurd (both_ways _ refl h)
some_is j (Some i) h = ap Some (eqb-true i j h)

told_ends : (t : Table) (ends : List Ends) (doubtful : Bool) (i : ℕ) → told_at t ends doubtful i ≡ true → (found t).ends i ≡ get_or ends i (0, 0)
unfolding told_at
told_ends t ends doubtful i h =
    let x = and_parts _ _ (and_parts _ _ h).0 in ap₂ (λ (a b : ℕ). (a, b)) (eqb-true _ _ x.0) (eqb-true _ _ x.1)

told_doubt : (t : Table) (ends : List Ends) (doubtful : Bool) (i : ℕ) → told_at t ends doubtful i ≡ true → (found t).doubtful i ≡ doubtful
unfolding told_at
told_doubt t ends doubtful i h = beq_is _ _ (and_parts _ _ h).1
  where
    beq_is : (a b : Bool) → beq a b ≡ true → a ≡ b
    beq_is true true h = refl
    beq_is true false h = sym h
    beq_is false true h = h
    beq_is false false h = refl

-- what is found is yielded
finds_yields : (t : Table) → Sound t → (o : Outcome) → finds t o ≡ true → Yields t o
unfolding finds
finds_yields t sound (placed imagers ends doubtful) h =
    let x = and_parts _ _ h in
    let y = and_parts _ _ x.0 in
    let told = (all_tells (told_at t ends doubtful) t.count).0 x.1 in
    let answer = (search_right t sound).0 (none_is (unsettled t) y.0) in
    subst (λ m. Solved t m (λ i. get_or ends i (0, 0)) (λ _. doubtful)) (eqb-true _ _ y.1)
    (solved_same t (λ i l. told_ends t ends doubtful i (told i l)) (λ i l. told_doubt t ends doubtful i (told i l)) answer)
finds_yields t sound (clash i) h = (search_right t sound).1 i (some_is i (unsettled t) h)

every_yields : (rigs : List Rig) → all_checked rigs ≡ true → EveryYields rigs
unfolding all_checked checked
every_yields [] h = tt
every_yields (rig ∷ rigs) h =
    let x = and_parts _ _ h in
    let y = and_parts _ _ x.0 in
    let z = and_parts _ _ y.0 in
    (finds_yields (table_of rig) (rig_sound rig z.0 z.1) rig.outcome y.1, every_yields rigs x.1)

pub rigs_yield : EveryYields worked
unfolding has minus set_of count_trailing_zeros row far fringe meet walk_on walk all between first handed spread agreed fits_at verified passing_below passing near_of contested lowest_that second begun_by begins imagers place second_place all_checked checked finds fair told_at is_none is_some_of
rigs_yield = every_yields worked refl

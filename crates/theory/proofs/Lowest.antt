-- The two lowest baselines of a star.
use Rattle.std.proofs.Common.{◌≡◌, ℕ, ◌^◌, ◌<◌, ◌≤◌, Bool, true, false, not, ◌&&◌, eqb, ◌≢◌, sym, refl, ap, ◌∙◌, ⊎_elim, arith}
use lib.Count.{trailing_of_zero, trailing_le}
use Rattle.std.proofs.lemmas.Bool.{and_parts, both_ways, cases_eq, cases_lt, eqb-true, eqb-false, not-true}
use Rattle.bitset.specs.Sets.{has, drop, lowest, Lowest}
use Rattle.bitset.proofs.Members.{has_drop, not_empty, lowest_is, below_lowest, drop_lt}
use Rattle.theory.specs.Imagers.{second}

-- the second lowest baseline is one or is none
pub second_le : (a : ℕ) → second a ≤ 64
unfolding second
second_le a = trailing_le 64 (drop a (lowest a))

-- What the lowest and the second lowest baseline of a star say of it; a second of 64 is none.
pub record LowestTwo (a : ℕ) : Type 0 where
  pub low : Lowest a (lowest a)
  pub rises : lowest a < second a
  pub below_second : (k : ℕ) → k < second a → has a k ≡ eqb k (lowest a)
  pub second_in : second a < 64 → has a (second a) ≡ true

-- what is in the star and not the lowest is no member of the rest
is_low : (x y : Bool) → (x && not y) ≡ false → (y ≡ true → x ≡ true) → x ≡ y
is_low true true h k = refl
is_low true false h k = h
is_low false true h k = k refl
is_low false false h k = refl

-- a star that is not empty has a lowest baseline, and perhaps a second
pub lowest_two : (a v : ℕ) → a < 2 ^ 64 → has a v ≡ true → LowestTwo a
unfolding second
lowest_two a v l h = record {
  low = low;
  rises = ⊎_elim none_rises (λ d. some_rises (some d)) (cases_eq rest 0);
  below_second = λ k below. is_low _ _ (sym (rest_has k) ∙ below_lowest rest k rest_lt below) (λ p. ap (has a) (eqb-true k _ p) ∙ low.member);
  second_in = λ below. (some (λ z. omega (arith, none z))).0;
}
  where
    low : Lowest a (lowest a)
    low = lowest_is a (not_empty a v h) l

    -- the star without its lowest baseline
    rest : ℕ
    rest = drop a (lowest a)

    rest_has : (k : ℕ) → has rest k ≡ (has a k && not (eqb k (lowest a)))
    rest_has k = has_drop a (lowest a) k l

    rest_lt : rest < 2 ^ 64
    rest_lt = drop_lt a (lowest a) l

    none : rest ≡ 0 → lowest rest ≡ 64
    none z = ap lowest z ∙ trailing_of_zero 64

    none_rises : rest ≡ 0 → lowest a < lowest rest
    none_rises z = omega (arith, none z, low.below)

    some : rest ≢ 0 → (has a (lowest rest) ≡ true) × (eqb (lowest rest) (lowest a) ≡ false)
    some d =
        let x = and_parts _ _ (sym (rest_has (lowest rest)) ∙ (lowest_is rest d rest_lt).member) in
        (x.0, not-true _ x.1)

    some_rises : (has a (lowest rest) ≡ true) × (eqb (lowest rest) (lowest a) ≡ false) → lowest a < lowest rest
    some_rises x =
        ⊎_elim
        (λ k. k)
        (λ k. let d = eqb-false (lowest rest) (lowest a) x.1 in
        absurd (both_ways _ (low.least (lowest rest) (omega arith)) x.0))
        (cases_lt (lowest a) (lowest rest))

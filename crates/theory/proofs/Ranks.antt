-- Two stars in the order of rank: they have the same baselines, or the first baseline in which they differ is in the first.
use Rattle.std.proofs.Common.{◌≡◌, ℕ, ◌<◌, ◌≤◌, Bool, true, false, eqb, ◌⊎◌, sym, ap, ◌∙◌, inl, inr, ⊎_elim, arith}
use Rattle.std.proofs.lemmas.Bool.{cases_lt, cases_eq, ne_eqb}
use Rattle.bitset.specs.Sets.{has, lowest}
use Rattle.evidence.specs.Table.{Table, Sound}
use Rattle.theory.specs.Stars.{Stars, star}
use Rattle.theory.specs.Imagers.{second}
use Rattle.theory.proofs.Lowest.{LowestTwo, second_le}
use Rattle.theory.proofs.StarFacts.{star_same}
use Rattle.theory.proofs.Begins.{star_two}
use Rattle.theory.proofs.Sorted.{rank}

-- The first baseline in which two stars differ is in the first of them.
pub record DiffersFirst (n a b : ℕ) : Type 0 where
  pub at : ℕ
  pub below : at < n
  pub first : has a at ≡ true
  pub not_second : has b at ≡ false
  pub before : (j : ℕ) → j < at → has a j ≡ has b j

-- Two stars have the same baselines below n, or they differ so.
abbrev pub Compared : ℕ → ℕ → ℕ → Type 0
Compared n a b = ((i : ℕ) → i < n → has a i ≡ has b i) ⊎ DiffersFirst n a b

module _ (n a b : ℕ) (two_a : LowestTwo a) (two_b : LowestTwo b) (inside : (k : ℕ) → has a k ≡ true → k < n) where
  -- where the lowest baselines differ, the lower one is in the first star alone
  lowest_differs : lowest a < lowest b → DiffersFirst n a b
  lowest_differs h = record {
    at = lowest a;
    below = inside (lowest a) two_a.low.member;
    first = two_a.low.member;
    not_second = two_b.low.least (lowest a) h;
    before = λ j l. two_a.low.least j l ∙ sym (two_b.low.least j (omega arith));
  }

  -- where they are the same and the second ones differ, the lower of those is in the first star alone
  second_differs : lowest a ≡ lowest b → second a < second b → DiffersFirst n a b
  second_differs e h =
      let low = two_a.rises in
      let in-a = two_a.second_in (omega (arith, second_le b)) in
      record {
        at = second a;
        below = inside (second a) in-a;
        first = in-a;
        not_second = two_b.below_second (second a) h ∙ ne_eqb (second a) (lowest b) (omega arith);
        before = λ j l. two_a.below_second j l ∙ ap (eqb j) e ∙ sym (two_b.below_second j (omega arith));
      }

module _ {t : Table} (sound : Sound t) {near : ℕ → ℕ} (good : Stars t (λ v. v < t.count) (star t near)) where
  -- two stars with the same lowest two baselines have the same baselines
  same_two : (v w : ℕ) (q s : Bool) → v < t.count → w < t.count
      → lowest (star t near v q) ≡ lowest (star t near w s) → second (star t near v q) ≡ second (star t near w s)
      → (i : ℕ) → i < t.count → has (star t near v q) i ≡ has (star t near w s) i
  same_two v w q s lv lw low sec i li = ⊎_elim some none (cases_lt (second a) 64)
    where
      a : ℕ
      a = star t near v q

      b : ℕ
      b = star t near w s

      two_a : LowestTwo a
      two_a = star_two sound good v q lv

      two_b : LowestTwo b
      two_b = star_two sound good w s lw

      some : second a < 64 → has a i ≡ has b i
      some h =
          ap (λ c. has c i) (star_same sound good v w q s (lowest a) (second a) lv lw (omega (arith, two_a.rises))
          two_a.low.member (two_a.second_in h)
          (ap (has b) low ∙ two_b.low.member) (ap (has b) sec ∙ two_b.second_in (omega arith)))

      none : 64 ≤ second a → has a i ≡ has b i
      none h =
          let few = sound.few in
          two_a.below_second i (omega arith) ∙ ap (eqb i) low ∙ sym (two_b.below_second i (omega arith))

  -- two stars in the order of rank
  pub rank_compares : (v w : ℕ) (q s : Bool) → v < t.count → w < t.count → rank (star t near v q) ≤ rank (star t near w s)
      → Compared t.count (star t near v q) (star t near w s)
  rank_compares v w q s lv lw h =
      ⊎_elim (λ l. inr (lowest_differs t.count a b two_a two_b inside l)) tied (cases_lt (lowest a) (lowest b))
    where
      a : ℕ
      a = star t near v q

      b : ℕ
      b = star t near w s

      two_a : LowestTwo a
      two_a = star_two sound good v q lv

      two_b : LowestTwo b
      two_b = star_two sound good w s lw

      inside : (k : ℕ) → has a k ≡ true → k < t.count
      inside k = good.inside v q k lv

      tied : lowest b ≤ lowest a → Compared t.count a b
      tied l =
          let low : lowest a ≡ lowest b = omega (arith, second_le b) in
          ⊎_elim
          (λ e. inl (same_two v w q s lv lw low e))
          (λ d. inr (second_differs t.count a b two_a two_b inside low (omega arith)))
          (cases_eq (second a) (second b))

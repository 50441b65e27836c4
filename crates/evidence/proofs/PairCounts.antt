-- How the number of sharing pairs changes with one pair, and with one baseline.
use Rattle.std.proofs.Common.{◌≡◌, ℕ, zero, suc, ◌+◌, ◌-◌, ◌<◌, ◌≤◌, Bool, true, false, cond, sym, refl, ap, ◌∙◌, ⊎_elim, suc-add, zero-add, add-one, arith}
use Rattle.std.proofs.lemmas.Bool.Decides.{nat_tests}
use Rattle.std.proofs.lemmas.Bool.{cases_order, cases_eq}
use Rattle.evidence.specs.Table.{Table, Sound}
use Rattle.evidence.specs.Pairs.{sum_to, below, pairs}
use Rattle.evidence.specs.Changes.{is_pair}

-- ---- sums

sum_same : (n : ℕ) (f g : ℕ → ℕ) → ((k : ℕ) → k < n → f k ≡ g k) → sum_to n f ≡ sum_to n g
sum_same zero f g h = refl
sum_same (suc n) f g h = omega (arith, h n (omega arith), sum_same n f g (λ k l. h k (omega arith)))

sum_none : (n : ℕ) (f : ℕ → ℕ) → ((k : ℕ) → k < n → f k ≡ 0) → sum_to n f ≡ 0
sum_none zero f h = refl
sum_none (suc n) f h = omega (arith, h n (omega arith), sum_none n f (λ k l. h k (omega arith)))

-- two sums whose terms differ at i at most
sum_one : (n i : ℕ) (f g : ℕ → ℕ) → i < n → ((k : ℕ) → k < n → (k ≡ i → ⊥) → f k ≡ g k) → sum_to n f + g i ≡ sum_to n g + f i
sum_one zero i f g l h = absurd (omega arith)
sum_one (suc n) i f g l h =
    ⊎_elim
    (λ e. let same = sum_same n f g (λ k m. h k (omega arith) (λ q. omega arith)) in rw e (omega (arith, same)))
    (λ ne. omega (arith, h n (omega arith) (λ q. ne (sym q)), sum_one n i f g (omega arith) (λ k m. h k (omega arith))))
    (cases_eq i n)

sum_le : (n : ℕ) (f g : ℕ → ℕ) → ((k : ℕ) → f k ≤ g k) → sum_to n f ≤ sum_to n g
sum_le zero f g h = omega arith
sum_le (suc n) f g h = omega (arith, h n, sum_le n f g h)

sum_ones : (n : ℕ) (f : ℕ → ℕ) → ((k : ℕ) → f k ≤ 1) → sum_to n f ≤ n
sum_ones zero f h = omega arith
sum_ones (suc n) f h = omega (arith, h n, sum_ones n f h)

sum_more : (m n : ℕ) (f : ℕ → ℕ) → sum_to n f ≤ sum_to (m + n) f
sum_more zero n f = rw zero-add (omega arith)
sum_more (suc m) n f = rw suc-add (omega (arith, sum_more m n f))

-- ---- sharing pairs

-- what a pair counts
abbrev pub one_if : Bool → ℕ
one_if b = cond b 1 0

one_le : (b : Bool) → one_if b ≤ 1
one_le true = omega arith
one_le false = omega arith

-- no baselines make no pair
pub pairs_none : (t : Table) → t.count ≡ 0 → pairs t ≡ 0
unfolding pairs
pairs_none t h = rw h

-- a baseline that shares with none makes no new pair
pub pairs_grow : (t u : Table) → Sound t → u.count ≡ t.count + 1 → ((a b : ℕ) → u.shares a b ≡ t.shares a b) → pairs u ≡ pairs t
unfolding pairs
pairs_grow t u sound more same =
    let last = sum_none t.count (λ j. one_if (u.shares t.count j)) (λ j _. ap one_if (same t.count j ∙ sound.within t.count j (omega arith))) in
    let rest = sum_same t.count (below u) (below t) (λ a _. sum_same a (λ b. one_if (u.shares a b)) (λ b. one_if (t.shares a b)) (λ b _. ap one_if (same a b))) in
    rw (more, add-one) (omega (arith, last, rest))

module _ (t u : Table) (on : Bool) (same : u.count ≡ t.count) where
  -- where the pair is i and a smaller j
  pairs_put_below : (i j : ℕ) → j < i → i < t.count → ((a b : ℕ) → u.shares a b ≡ cond (is_pair i j a b) on (t.shares a b))
      → pairs u + one_if (t.shares i j) ≡ pairs t + one_if on
  unfolding pairs
  pairs_put_below i j low within put =
      let inner = sum_one i j (λ b. one_if (u.shares i b)) (λ b. one_if (t.shares i b)) low (λ b l ne. ap one_if (put i b ∙ grind (arith, nat_tests))) in
      let here : u.shares i j ≡ on = put i j ∙ grind (arith, nat_tests) in
      let outer = sum_one t.count i (below u) (below t) within (λ a l ne. sum_same a (λ b. one_if (u.shares a b)) (λ b. one_if (t.shares a b)) (λ b m. ap one_if (put a b ∙ grind (arith, nat_tests)))) in
      rw same (omega (arith, inner, outer, ap one_if here))

  -- after one pair is given a state, the number of pairs has moved by that pair alone
  pub pairs_put : (i j : ℕ) → (i ≡ j → ⊥) → i < t.count → j < t.count → Sound t
      → ((a b : ℕ) → u.shares a b ≡ cond (is_pair i j a b) on (t.shares a b))
      → pairs u + one_if (t.shares i j) ≡ pairs t + one_if on
  pairs_put i j ne hi hj sound put =
      ⊎_elim
      (λ e. absurd (ne e))
      (⊎_elim
      (λ l. rw (sound.alike i j) (pairs_put_below j i l hj (λ a b. put a b ∙ ap (λ p. cond p on (t.shares a b)) (grind (arith, nat_tests)))))
      (λ l. pairs_put_below i j l hi put))
      (cases_order i j)

-- 64 baselines make 2,016 pairs
pub pairs_le : (t : Table) → Sound t → pairs t ≤ 2016
unfolding pairs
pairs_le t sound =
    let few = sound.few in
    let own = sum_le t.count (below t) (λ k. k) (λ k. sum_ones k (λ j. one_if (t.shares k j)) (λ j. one_le (t.shares k j))) in
    let e : (64 - t.count) + t.count ≡ 64 = omega arith in
    let more : sum_to t.count (λ k. k) ≤ 2016 = rw e at (sum_more (64 - t.count) t.count (λ k. k)) in
    omega (arith, own, more)

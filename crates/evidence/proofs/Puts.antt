-- A sound table stays sound when one pair is given a state.
use Rattle.std.proofs.Common.{◌≡◌, ℕ, ◌<◌, ◌≤◌, Bool, false, cond, sym, ap, ◌∙◌, arith}
use Rattle.std.proofs.lemmas.Bool.Decides.{nat_tests}
use Rattle.evidence.specs.Table.{Table, Sound}
use Rattle.evidence.specs.Changes.{is_pair}

-- the order of the second two does not matter
pair_comm : (i j a b : ℕ) → is_pair i j a b ≡ is_pair i j b a
pair_comm i j a b = grind (arith, nat_tests)

-- one pair of different baselines below the count may be given any state
pub put_sound : (t u : Table) (i j : ℕ) (on : Bool) → Sound t → i < t.count → j < t.count → (i ≡ j → ⊥) → u.count ≡ t.count
    → ((a b : ℕ) → u.shares a b ≡ cond (is_pair i j a b) on (t.shares a b)) → Sound u
put_sound t u i j on s hi hj ne same put = record {
  few = rw same s.few;
  alike = λ a b.
      put a b ∙ ap (λ p. cond p on (t.shares a b)) (pair_comm i j a b)
      ∙ ap (λ x. cond (is_pair i j b a) on x) (s.alike a b) ∙ sym (put b a);
  apart = λ a.
      let off : is_pair i j a a ≡ false = grind (arith, nat_tests) in
      put a a ∙ ap (λ p. cond p on (t.shares a a)) off ∙ s.apart a;
  within = λ a b l.
      let m : t.count ≤ a = omega (arith, same) in
      let off : is_pair i j a b ≡ false = grind (arith, nat_tests) in
      put a b ∙ ap (λ p. cond p on (t.shares a b)) off ∙ s.within a b m;
}

-- giving a pair the state that it has changes nothing
pub put_same : (t : Table) (i j : ℕ) (on : Bool) → Sound t → t.shares i j ≡ on
    → (a b : ℕ) → t.shares a b ≡ cond (is_pair i j a b) on (t.shares a b)
put_same t i j on s was a b = grind (arith, nat_tests, was, s.alike i j)

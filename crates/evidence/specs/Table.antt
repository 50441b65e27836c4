-- The meaning of evidence: a table of sharing.
use Rattle.std.specs.Prelude.{◌≡◌, ℕ, ◌≤◌, Bool, false, not, ◌&&◌, ◌==◌, nat_lt, refl}
use Rattle.std.proofs.Common.{sym}
use Rattle.std.proofs.Math.Bool.{and_comm}
use Rattle.std.proofs.lemmas.Bool.Decides.{same_from_decides, Decides-eqb, Decides-like}
use Rattle.std.proofs.lemmas.Bool.{le-ltb, eq-eqb, and_right}

-- How many baselines there are, numbered from 0, and which two of them share an imager.
pub record Table : Type 0 where
  pub count : ℕ
  pub shares : ℕ → ℕ → Bool

-- The table of n baselines in which two different ones share when f tells so.
abbrev pub of_pairs : ℕ → (ℕ → ℕ → Bool) → Table
of_pairs n f = record {
  count = n;
  shares = λ i j. (nat_lt i n && nat_lt j n) && (not (i == j) && f i j);
}

-- What every evidence shows of its table: at most 64 baselines, sharing alike in both orders,
-- and no sharing of a baseline with itself or with a number that is not below the count.
pub record Sound (t : Table) : Type 0 where
  pub few : t.count ≤ 64
  pub alike : (i j : ℕ) → t.shares i j ≡ t.shares j i
  pub apart : (i : ℕ) → t.shares i i ≡ false
  pub within : (i j : ℕ) → t.count ≤ i → t.shares i j ≡ false

-- A table of at most 64 baselines, in which two are told of alike in both orders, is sound.
pub eqb_comm : (a b : ℕ) → (a == b) ≡ (b == a)
eqb_comm a b = same_from_decides (a == b) (b == a) (Decides-eqb a b) (Decides-like (b == a) sym sym (Decides-eqb b a))

pub pairs_sound : (n : ℕ) (f : ℕ → ℕ → Bool) → n ≤ 64 → ((i j : ℕ) → f i j ≡ f j i) → Sound (of_pairs n f)
pairs_sound n f few alike = record {
  few = few;
  alike = λ i j. cc (and_comm (nat_lt i n) (nat_lt j n), eqb_comm i j, alike i j);
  apart = λ i. let e = eq-eqb i i refl in and_right (nat_lt i n && nat_lt i n) _ (rw e);
  within = λ i j h. let e = le-ltb i n h in rw e;
}

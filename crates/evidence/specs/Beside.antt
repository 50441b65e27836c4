-- The table of two evidences beside each other.
use Rattle.std.specs.Prelude.{◌≡◌, ℕ, ◌+◌, ◌-◌, ◌≤◌, min, false, cond, not, ◌&&◌, nat_lt, refl}
use Rattle.std.proofs.Common.{⊎_elim, arith}
use Rattle.std.proofs.Math.Bool.{and_comm}
use Rattle.std.proofs.lemmas.Bool.{cases_lt, lt-ltb, le-ltb, and_right}
use Rattle.evidence.specs.Table.{Table, Sound}

-- The second's numbers follow the first's, the two do not share, and nothing goes past the 64th.
abbrev pub beside : Table → Table → Table
beside s t = record {
  count = min 64 (s.count + t.count);
  shares = λ i j.
      cond (nat_lt i s.count) (s.shares i j)
      (not (nat_lt j s.count) && ((nat_lt i 64 && nat_lt j 64) && t.shares (i - s.count) (j - s.count)));
}

-- It is sound where the two are.
module _ (s t : Table) (a : Sound s) (b : Sound t) where
  beside_alike : (i j : ℕ) → (beside s t).shares i j ≡ (beside s t).shares j i
  beside_alike i j =
      ⊎_elim
      (λ h. let p = lt-ltb i s.count h in
      ⊎_elim
      (λ k. let q = lt-ltb j s.count k in rw (p, q, a.alike i j))
      (λ k. let q = le-ltb j s.count k in rw (p, q, a.alike i j, a.within j i k))
      (cases_lt j s.count))
      (λ h. let p = le-ltb i s.count h in
      ⊎_elim
      (λ k. let q = lt-ltb j s.count k in rw (p, q, a.alike j i, a.within i j h))
      (λ k. let q = le-ltb j s.count k in rw (p, q, and_comm (nat_lt i 64) (nat_lt j 64), b.alike (i - s.count) (j - s.count)))
      (cases_lt j s.count))
      (cases_lt i s.count)

  beside_apart : (i : ℕ) → (beside s t).shares i i ≡ false
  beside_apart i =
      ⊎_elim
      (λ h. let p = lt-ltb i s.count h in rw (p, a.apart i))
      (λ h. let p = le-ltb i s.count h in rw p (rw (b.apart (i - s.count)) (and_right _ false refl)))
      (cases_lt i s.count)

  beside_within : (i j : ℕ) → (beside s t).count ≤ i → (beside s t).shares i j ≡ false
  beside_within i j h =
      ⊎_elim
      (λ k. let few = a.few in absurd (omega arith))
      (λ k. let p = le-ltb i s.count k in
      ⊎_elim
      (λ l. let q : t.count ≤ i - s.count = omega arith in
      rw (p, b.within (i - s.count) (j - s.count) q)
      (and_right (not (nat_lt j s.count)) _ (and_right (nat_lt i 64 && nat_lt j 64) false refl)))
      (λ l. let q = le-ltb i 64 l in rw (p, q) (and_right _ false refl))
      (cases_lt i 64))
      (cases_lt i s.count)

  pub beside_sound : Sound (beside s t)
  beside_sound = record { few = omega arith; alike = beside_alike; apart = beside_apart; within = beside_within }

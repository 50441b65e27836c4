-- The fringe of a walk: where to go next, and what it means that there is nowhere to go.
use Rattle.std.proofs.Common.{◌≡◌, ℕ, ◌^◌, ◌<◌, true, false, not, ◌&&◌, eqb, ltb, sym, ◌∙◌, ⊎_elim, arith}
use lib.Bits.{bit_and}
use Rattle.std.proofs.lemmas.Bool.{cases_Bool, and_parts, and_from, not-true, not_from_false, eqb-false, ne_eqb, lt-ltb}
use Rattle.std.proofs.lemmas.Nat.{and_le_l}
use Rattle.bitset.specs.Sets.{has, lowest}
use Rattle.bitset.proofs.Members.{has_and, has_set_of, set_of_lt, not_empty, lowest_is}
use Rattle.evidence.specs.Table.{Table, Sound}
use Rattle.theory.specs.Stars.{row}
use Rattle.theory.specs.Walks.{fringe}
use Rattle.theory.proofs.Rows.{row_has, row_lt}
use Rattle.theory.proofs.Reaches.{shares_lt}

module _ (t : Table) (sound : Sound t) where
  -- when a baseline is in the fringe
  fringe_has : (met v : ℕ) → has (fringe t met) v ≡ (ltb v 64 && (not (has met v) && not (eqb (bit_and (row t v) met) 0)))
  unfolding fringe
  fringe_has met v = has_set_of _ 64 v

  -- the fringe is a set of numbers below 64
  fringe_lt : (met : ℕ) → fringe t met < 2 ^ 64
  unfolding fringe
  fringe_lt met = set_of_lt _ 64

  -- a baseline of the fringe was not met, and its row has one that was
  fringe_parts : (met v : ℕ) → has (fringe t met) v ≡ true → (has met v ≡ false) × (bit_and (row t v) met ≡ 0 → ⊥)
  fringe_parts met v h =
      let x = and_parts _ _ (and_parts _ _ (sym (fringe_has met v) ∙ h)).1 in
      (not-true _ x.0, eqb-false _ _ (not-true _ x.1))

  -- the lowest of those met in the row of v was met, and shares with v
  lowest_met : (met v : ℕ) → (bit_and (row t v) met ≡ 0 → ⊥) →
      let p = lowest (bit_and (row t v) met) in
      (has met p ≡ true) × (t.shares p v ≡ true)
  lowest_met met v ne =
      let low = lowest_is (bit_and (row t v) met) ne (omega (arith, and_le_l (row t v) met, row_lt t v)) in
      let x = and_parts _ _ (sym (has_and (row t v) met _) ∙ low.member) in
      (x.1, sound.alike _ v ∙ sym (row_has t sound v _) ∙ x.0)

  -- where the fringe is not empty, its lowest was not met and shares with one that was: a step
  pub fringe_next : (met : ℕ) → (fringe t met ≡ 0 → ⊥) →
      let v = lowest (fringe t met) in
      let p = lowest (bit_and (row t v) met) in
      (has met p ≡ true) × (has met v ≡ false) × (t.shares p v ≡ true)
  fringe_next met ne =
      let v = lowest (fringe t met) in
      let x = fringe_parts met v (lowest_is (fringe t met) ne (fringe_lt met)).member in
      let y = lowest_met met v x.1 in
      (y.0, x.0, y.1)

  -- where the fringe is empty, what shares with one met was met
  pub fringe_empty : (met p v : ℕ) → fringe t met ≡ 0 → has met p ≡ true → t.shares p v ≡ true → has met v ≡ true
  fringe_empty met p v z m s =
      ⊎_elim (λ h. h) (λ h. absurd (not_empty (fringe t met) v (fringe_has met v ∙ inside h) z)) (cases_Bool (has met v))
    where
      meeting : has (bit_and (row t v) met) p ≡ true
      meeting = has_and _ _ p ∙ and_from _ _ (row_has t sound v p ∙ sound.alike v p ∙ s) m

      inside : has met v ≡ false → (ltb v 64 && (not (has met v) && not (eqb (bit_and (row t v) met) 0))) ≡ true
      inside h =
          and_from _ _ (lt-ltb v 64 (shares_lt t sound p v s))
          (and_from _ _ (not_from_false _ h) (not_from_false _ (ne_eqb _ _ (not_empty _ p meeting))))

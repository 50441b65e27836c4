-- What the last question of `set` answers, where the two numbers are a pair.
use Rattle.std.proofs.Common.{◌≡◌, ℕ, ◌<◌, ◌≤◌, Bool, true, false, not, ◌&&◌, ◌||◌, ltb, ◌⊎◌, Some, None, ap, inl, inr}
use Rattle.std.proofs.lemmas.Bool.{lt-ltb, le-ltb, ne_eqb, or_left, or_right}
use Rattle.evidence.specs.declared.refusal.Refusal.TheVariants.{ManyPairs}
use Rattle.evidence.specs.Refusals.{first_no}
use Rattle.evidence.specs.Table.{Table}
use Rattle.evidence.specs.Pairs.{pairs}
use Rattle.evidence.specs.Changes.{set_questions}

module _ (t : Table) (most i j : ℕ) (on : Bool) (hi : i < t.count) (hj : j < t.count) (ne : i ≡ j → ⊥) where
  within : (ltb i t.count && ltb j t.count) ≡ true
  within = let p = lt-ltb i t.count hi in let q = lt-ltb j t.count hj in rw (p, q)

  -- a new pair has no room
  pub set_many : on ≡ true → t.shares i j ≡ false → most ≤ pairs t → first_no (set_questions t most i j on) ≡ Some ManyPairs
  set_many is off full = let q = ne_eqb i j ne in let f = le-ltb (pairs t) most full in rw (within, q, is, off, f)

  -- the pair has room or needs none
  roomy : (on ≡ false) ⊎ ((t.shares i j ≡ true) ⊎ (pairs t < most)) → (not on || (t.shares i j || ltb (pairs t) most)) ≡ true
  roomy (inl off) = or_left _ _ (ap not off)
  roomy (inr (inl has)) = or_right _ _ (or_left _ _ has)
  roomy (inr (inr room)) = or_right (not on) _ (or_right (t.shares i j) _ (lt-ltb (pairs t) most room))

  -- so no question is answered no
  pub set_room : (on ≡ false) ⊎ ((t.shares i j ≡ true) ⊎ (pairs t < most)) → first_no (set_questions t most i j on) ≡ None
  set_room h = let q = ne_eqb i j ne in rw (within, q, roomy h)

-- What `set` answers of a pair, by the state that the pair has.
use Rattle.std.proofs.Common.{◌≡◌, ℕ, ◌<◌, ◌≤◌, Bool, true, false, cond, not, Ok, Err, sym, refl, inl, inr}
use mathlib.Core.Bool.{beq}
use Rattle.evidence.specs.declared.refusal.Refusal.TheVariants.{ManyPairs}
use Rattle.evidence.specs.Table.{Table, Sound}
use Rattle.evidence.specs.Pairs.{pairs}
use Rattle.evidence.specs.Changes.{is_pair, Set}
use Rattle.evidence.proofs.Puts.{put_same}
use Rattle.evidence.proofs.Questions.{set_many, set_room}

-- a state that is not the wanted one is the other
pub beq_other : (has on : Bool) → beq has on ≡ false → has ≡ not on
beq_other true true h = h
beq_other true false h = refl
beq_other false true h = refl
beq_other false false h = sym h

-- what `ask_pair` tells of two numbers that it admits
abbrev pub Pair : ℕ → ℕ → ℕ → Type 0
Pair count i j = (i < count) × (j < count) × (i ≡ j → ⊥)

module _ (t : Table) (most i j : ℕ) (pair : Pair t.count i j) where
  -- the one that is wanted
  pub set_had : (on : Bool) → Sound t → t.shares i j ≡ on → Set t t most i j on (Ok false)
  set_had true sound was = (
    set_room t most i j true pair.0 pair.1 pair.2 (inr (inl was)),
    record { told = rw was refl; count = refl; shares = put_same t i j true sound was },
  )
  set_had false sound was = (
    set_room t most i j false pair.0 pair.1 pair.2 (inl refl),
    record { told = rw was refl; count = refl; shares = put_same t i j false sound was },
  )

  -- the other, with no room for a new sharing pair
  pub set_full : (on : Bool) → on ≡ true → t.shares i j ≡ false → most ≤ pairs t → Set t t most i j on (Err ManyPairs)
  set_full on is off full = (set_many t most i j on pair.0 pair.1 pair.2 is off full, record { count = refl; shares = λ _ _. refl })

  -- the other, which is put right
  module _ (u : Table) (same : u.count ≡ t.count) where
    pub set_off : (on : Bool) → on ≡ false → t.shares i j ≡ true
        → ((a b : ℕ) → u.shares a b ≡ cond (is_pair i j a b) false (t.shares a b)) → Set t u most i j on (Ok true)
    set_off on is was put = rw is (set_room t most i j false pair.0 pair.1 pair.2 (inl refl), record { told = rw was refl; count = same; shares = put })

    pub set_on : (on : Bool) → on ≡ true → t.shares i j ≡ false → pairs t < most
        → ((a b : ℕ) → u.shares a b ≡ cond (is_pair i j a b) true (t.shares a b)) → Set t u most i j on (Ok true)
    set_on on is was room put = rw is (set_room t most i j true pair.0 pair.1 pair.2 (inr (inr room)), record { told = rw was refl; count = same; shares = put })

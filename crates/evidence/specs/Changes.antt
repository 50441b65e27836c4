-- What the calls of a ledger answer and change, told of its table.
use Rattle.std.specs.Prelude.{◌≡◌, ℕ, ◌+◌, Bool, cond, not, ◌&&◌, ◌||◌, List, [], ◌∷◌, ◌++◌, Some, None, Ok, Err, Result, ◌==◌, nat_lt}
use Rattle.std.specs.Bool.{beq}
use Rattle.evidence.specs.declared.refusal.Refusal.{Refusal}
use Rattle.evidence.specs.declared.refusal.Refusal.TheVariants.{Full, ManyPairs}
use Rattle.evidence.specs.Refusals.{Question, first_no, pair_questions}
use Rattle.evidence.specs.Table.{Table}
use Rattle.evidence.specs.Pairs.{pairs}

-- Two tables say the same.
pub record Same (t u : Table) : Type 0 where
  pub count : u.count ≡ t.count
  pub shares : (a b : ℕ) → u.shares a b ≡ t.shares a b

-- One baseline more, which shares with none; n is its number.
pub record Added (t u : Table) (n : ℕ) : Type 0 where
  pub number : n ≡ t.count
  pub count : u.count ≡ t.count + 1
  pub shares : (a b : ℕ) → u.shares a b ≡ t.shares a b

-- Whether a and b are i and j, in either order.
abbrev pub is_pair : ℕ → ℕ → ℕ → ℕ → Bool
is_pair i j a b = (a == i && b == j) || (a == j && b == i)

-- The pair i, j has the wanted state, and nothing else is changed; `changed` tells whether it had another.
pub record Put (t u : Table) (i j : ℕ) (on changed : Bool) : Type 0 where
  pub told : changed ≡ not (beq (t.shares i j) on)
  pub count : u.count ≡ t.count
  pub shares : (a b : ℕ) → u.shares a b ≡ cond (is_pair i j a b) on (t.shares a b)

-- What `grow` asks.
abbrev pub grow_questions : Table → List Question
grow_questions t = (nat_lt t.count 64, Full) ∷ []

-- What `set` asks: are the two a pair, and is there room if it is a new sharing pair?
abbrev pub set_questions : Table → ℕ → ℕ → ℕ → Bool → List Question
set_questions t most i j on =
    pair_questions t.count i j
    ++ ((not on || (t.shares i j || nat_lt (pairs t) most), ManyPairs) ∷ [])

-- What `grow` answers and leaves.
abbrev pub Grown : Table → Table → Result ℕ Refusal → Type 0
Grown t u (Ok n) = (first_no (grow_questions t) ≡ None) × Added t u n
Grown t u (Err e) = (first_no (grow_questions t) ≡ Some e) × Same t u

-- What `set` answers and leaves.
abbrev pub Set : Table → Table → ℕ → ℕ → ℕ → Bool → Result Bool Refusal → Type 0
Set t u most i j on (Ok changed) = (first_no (set_questions t most i j on) ≡ None) × Put t u i j on changed
Set t u most i j on (Err e) = (first_no (set_questions t most i j on) ≡ Some e) × Same t u

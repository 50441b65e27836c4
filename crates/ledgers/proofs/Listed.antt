-- What a list of pairs keeps from call to call.
use Rattle.std.proofs.Common.{◌≡◌, ℕ, suc, ◌+◌, ◌<◌, ◌≤◌, Bool, true, false, cond, not, ◌||◌, ltb, is_some, Some, None, Ok, Err, List, [], ◌∷◌, ◌++◌, length, get_or, sym, refl, ap, ◌∙◌, arith}
use Rattle.std.specs.List.{list_any, count_by, position, position_or_len, swap_remove}
use Rattle.std.proofs.lemmas.Bool.Decides.{nat_tests}
use Rattle.std.proofs.lemmas.List.Quantifiers.{position-Some}
use Rattle.std.proofs.lemmas.List.Sums.{sum_by-cons, sum_by_push, sum_by-swap_remove}
use Rattle.evidence.specs.declared.refusal.Refusal.TheVariants.{ManyPairs}
use Rattle.evidence.specs.Table.{Sound}
use Rattle.evidence.specs.Pairs.{pairs}
use Rattle.evidence.specs.Changes.{is_pair, Set}
use Rattle.evidence.proofs.PairCounts.{one_if, pairs_none, pairs_put}
use Rattle.evidence.proofs.Puts.{put_sound, put_same}
use Rattle.ledgers.specs.declared.pair_list.PairList.{PairList}
use Rattle.ledgers.specs.Listing.{hit, listing}
use Rattle.ledgers.proofs.Sets.{Pair, set_had, set_full, set_off, set_on}

abbrev pub Entries : Type 0
Entries = List (ℕ × ℕ)

-- no pair stands twice
abbrev pub Once : Entries → Type 0
Once xs = (i j : ℕ) → count_by (hit i j) xs ≤ 1

-- what a list keeps, by its ghost fields
abbrev pub Kept : ℕ → Entries → Type 0
Kept n xs = record { sound : Sound (listing n xs); once : Once xs; counted : length xs ≡ pairs (listing n xs) }

-- no baselines
pub kept_none : (xs : Entries) → xs ≡ [] → Kept 0 xs
kept_none xs e = rw e (record {
  sound = record { few = omega arith; alike = λ _ _. refl; apart = λ _. refl; within = λ _ _ _. refl };
  once = λ i j. omega arith;
  counted = sym (pairs_none (listing 0 []) refl);
})

-- ---- whether an entry passes, and how many do

first_step : (b a : Bool) (k n : ℕ) → ltb k n ≡ a → ltb (cond (not b) (1 + k) 0) (suc n) ≡ (b || a)
first_step true a k n e = grind (arith, nat_tests)
first_step false a k n e = grind (arith, nat_tests, e)

first_any : {X : Type 0} (p : X → Bool) (xs : List X) → ltb (position_or_len p xs) (length xs) ≡ list_any p xs
first_any p [] = refl
first_any p (x ∷ xs) = first_step (p x) (list_any p xs) (position_or_len p xs) (length xs) (first_any p xs)

some_if : (b : Bool) (k : ℕ) → is_some (cond b (Some k) None) ≡ b
some_if true k = refl
some_if false k = refl

-- a place is found exactly where an entry passes
pub found_any : {X : Type 0} (p : X → Bool) (xs : List X) → is_some (position p xs) ≡ list_any p xs
found_any p xs = some_if _ _ ∙ first_any p xs

count_step : (b a : Bool) (m n : ℕ) → n ≡ one_if b + m → n ≤ 1 → (m ≤ 1 → one_if a ≡ m) → one_if (b || a) ≡ n
count_step true a m n e h k = omega (arith, e, h)
count_step false a m n e h k = omega (arith, e, k (omega (arith, e, h)))

-- where at most one passes, that one tells how many do
any_counts : {X : Type 0} (p : X → Bool) (xs : List X) → count_by p xs ≤ 1 → one_if (list_any p xs) ≡ count_by p xs
any_counts p [] h = refl
any_counts p (x ∷ xs) h = count_step (p x) (list_any p xs) _ _ (sum_by-cons (λ y. one_if (p y)) x xs) h (any_counts p xs)

-- ---- one entry more or fewer

-- an entry that is the pair i, j is the pairs that are i, j
same_hit : (i j a b p q : ℕ) → is_pair i j p q ≡ true → is_pair a b p q ≡ is_pair i j a b
same_hit i j a b p q h = grind (arith, nat_tests, h)

itself : (i j : ℕ) → is_pair i j i j ≡ true
itself i j = grind (arith, nat_tests)

taken : (same old new : Bool) → one_if new + one_if same ≡ one_if old → new ≡ cond same false old
taken true true true h = absurd (omega (arith, h))
taken true true false h = refl
taken true false new h = absurd (omega (arith, h))
taken false true true h = refl
taken false true false h = absurd (omega (arith, h))
taken false false true h = absurd (omega (arith, h))
taken false false false h = refl

given : (same old new : Bool) → one_if new ≡ one_if old + one_if same → new ≡ cond same true old
given true old true h = refl
given true old false h = absurd (omega (arith, h))
given false true true h = refl
given false true false h = absurd (omega (arith, h))
given false false true h = absurd (omega (arith, h))
given false false false h = refl

-- a pair that was not listed stands at most once
free : (same old : Bool) → old ≡ cond same false old → one_if old + one_if same ≤ 1
free true old e = rw e (omega arith)
free false true e = omega arith
free false false e = omega arith

module _ (x : PairList) (i j : ℕ) (on : Bool) (pair : Pair x.baselines.count i j) where
  abbrev n : ℕ
  n = x.baselines.count

  abbrev xs : Entries
  xs = x.entries.items

  -- the pair given a state
  put_kept : (ys : Entries) (state : Bool) → Once ys
      → ((a b : ℕ) → list_any (hit a b) ys ≡ cond (is_pair i j a b) state (list_any (hit a b) xs))
      → length ys + one_if (list_any (hit i j) xs) ≡ length xs + one_if state
      → Kept n ys
  put_kept ys state once put moved = record {
    sound = put_sound (listing n xs) (listing n ys) i j state x.sound pair.0 pair.1 pair.2 refl put;
    once = once;
    counted = omega (arith, moved, x.counted, pairs_put (listing n xs) (listing n ys) state refl i j pair.2 pair.0 pair.1 x.sound put);
  }

  -- ---- the pair is listed
  module _ (place : ℕ) (found : position (hit i j) xs ≡ Some place) where
    listed : list_any (hit i j) xs ≡ true
    listed = sym (found_any (hit i j) xs) ∙ ap is_some found

    -- and stays so
    pub set_listed : on ≡ true → Set (listing n xs) (listing n xs) 512 i j on (Ok false)
    set_listed is = set_had (listing n xs) 512 i j pair on x.sound (listed ∙ sym is)

    -- and is taken off: the last entry takes its place
    module _ (d : ℕ × ℕ) (ys : Entries) (is : ys ≡ swap_remove xs place d) where
      counts : (a b : ℕ) → count_by (hit a b) ys + one_if (is_pair i j a b) ≡ count_by (hit a b) xs
      counts a b =
          let at = position-Some (hit i j) xs place d found in
          let e = get_or xs place d in
          rw is
          (ap (λ m. count_by (hit a b) (swap_remove xs place d) + one_if m) (sym (same_hit i j a b e.0 e.1 at.1))
          ∙ sum_by-swap_remove (λ y. one_if (hit a b y)) xs place d at.0)

      removed_once : Once ys
      removed_once a b = omega (arith, counts a b, x.once a b)

      removed_put : (a b : ℕ) → list_any (hit a b) ys ≡ cond (is_pair i j a b) false (list_any (hit a b) xs)
      removed_put a b =
          taken (is_pair i j a b) _ _
          (omega (arith, counts a b, any_counts (hit a b) xs (x.once a b), any_counts (hit a b) ys (removed_once a b)))

      pub removed_kept : length ys + 1 ≡ length xs → Kept n ys
      removed_kept less = put_kept ys false removed_once removed_put (omega (arith, less, ap one_if listed))

      pub set_removed : on ≡ false → Set (listing n xs) (listing n ys) 512 i j on (Ok true)
      set_removed is = set_off (listing n xs) 512 i j pair (listing n ys) refl on is listed removed_put

  -- ---- the pair is not listed
  module _ (absent : position (hit i j) xs ≡ None) where
    unlisted : list_any (hit i j) xs ≡ false
    unlisted = sym (found_any (hit i j) xs) ∙ ap is_some absent

    -- and stays so
    pub set_unlisted : on ≡ false → Set (listing n xs) (listing n xs) 512 i j on (Ok false)
    set_unlisted is = set_had (listing n xs) 512 i j pair on x.sound (unlisted ∙ sym is)

    -- and finds no room
    pub set_roomless : on ≡ true → length xs ≡ 512 → Set (listing n xs) (listing n xs) 512 i j on (Err ManyPairs)
    set_roomless is full = set_full (listing n xs) 512 i j pair on is unlisted (omega (arith, x.counted, full))

    -- and is put at the end
    module _ (ys : Entries) (is : ys ≡ xs ++ (i, j) ∷ []) where
      more : (a b : ℕ) → count_by (hit a b) ys ≡ count_by (hit a b) xs + one_if (is_pair i j a b)
      more a b =
          rw is
          (sum_by_push (λ y. one_if (hit a b y)) xs (i, j)
          ∙ ap (λ m. count_by (hit a b) xs + one_if m) (same_hit i j a b i j (itself i j)))

      added_once : Once ys
      added_once a b =
          omega (arith, more a b, any_counts (hit a b) xs (x.once a b), free (is_pair i j a b) _ (put_same (listing n xs) i j false x.sound unlisted a b))

      added_put : (a b : ℕ) → list_any (hit a b) ys ≡ cond (is_pair i j a b) true (list_any (hit a b) xs)
      added_put a b =
          given (is_pair i j a b) _ _
          (omega (arith, more a b, any_counts (hit a b) xs (x.once a b), any_counts (hit a b) ys (added_once a b)))

      pub added_kept : length ys ≡ length xs + 1 → Kept n ys
      added_kept one = put_kept ys true added_once added_put (omega (arith, one, ap one_if unlisted))

      pub set_added : on ≡ true → length xs < 512 → Set (listing n xs) (listing n ys) 512 i j on (Ok true)
      set_added is room = set_on (listing n xs) 512 i j pair (listing n ys) refl on is unlisted (omega (arith, x.counted, room)) added_put

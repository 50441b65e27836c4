-- A number is given to the baselines of a star, one after the other.
use Rattle.std.proofs.Common.{◌≡◌, ℕ, ◌^◌, ◌<◌, Bool, true, false, cond, not, ◌&&◌, eqb, [], ◌∷◌, length, get_or, set, sym, refl, ap, ◌∙◌, ap₂, ⊎_elim, arith, Some, None, Option, MatchOption}
use lib.Count.{trailing_of_zero}
use Rattle.std.specs.Option.{option_eq}
use mathlib.Core.Bool.{and-true}
use Rattle.std.proofs.lemmas.List.{get_or-set_same, get_or-set_other}
use Rattle.std.proofs.lemmas.Bool.{and_parts, eq-eqb, ne_eqb, cases_eq}
use Rattle.bitset.specs.Sets.{has, members, lowest, Lowest}
use Rattle.bitset.proofs.Members.{lowest_unique}
use Rattle.bitset.proofs.Rising.{members_turn, members_gone}
use Rattle.theory.specs.declared.record.Entry.{Entry}
use Rattle.theory.specs.Record.{blank}
use Rattle.layout.specs.declared.numbers.Numbers.{Numbers}
use Rattle.layout.specs.Numbers.{given}

-- The entry of w, of those that have the number if they are in the star and not in the rest.
abbrev pub so_far : Numbers → ℕ → ℕ → ℕ → Entry
so_far before star rest w = cond (has star w && not (has rest w))
    (given (get_or before.entries w blank) (has before.begun.bits w) before.next) (get_or before.entries w blank)

-- The baselines of the star that are not in the rest have the number.
pub record Giving (before : Numbers) (star rest : ℕ) (now : Numbers) : Type 0 where
  pub small : rest < 2 ^ 64
  pub within : (w : ℕ) → has rest w ≡ true → has star w ≡ true
  pub next : now.next ≡ before.next
  pub begun : now.begun.bits ≡ before.begun.bits
  pub entries : (w : ℕ) → get_or now.entries w blank ≡ so_far before star rest w

-- none has it
pub giving_none : (x : Numbers) (star : ℕ) → star < 2 ^ 64 → Giving x star star x
giving_none x star l = record {
  small = l;
  within = λ w h. h;
  next = refl;
  begun = refl;
  entries = λ w. none (has star w) _ _;
}
  where
    none : (b : Bool) (e f : Entry) → f ≡ cond (b && not b) e f
    none true e f = refl
    none false e f = refl

-- v has it too
pub giving_more : (before : Numbers) (star rest rest' : ℕ) (now : Numbers) (v : ℕ) (e : Entry) → rest' < 2 ^ 64 → members rest ≡ v ∷ members rest' → (long : length (set now.entries v e) ≡ 64)
    → e ≡ given (get_or now.entries v blank) (has now.begun.bits v) now.next → Giving before star rest now
    → Giving before star rest' (record { entries = set now.entries v e; begun = now.begun; next = now.next; long = long })
giving_more before star rest rest' now v e l turn long new g = record {
  small = l;
  within = λ w h. g.within w (and_parts _ _ (sym (is w) ∙ h)).0;
  next = g.next;
  begun = g.begun;
  entries = λ w. ⊎_elim (here w) (there w) (cases_eq w v);
}
  where
    low : Lowest rest v
    low = (members_turn rest rest' v g.small l turn).0

    is : (k : ℕ) → has rest' k ≡ (has rest k && not (eqb k v))
    is = (members_turn rest rest' v g.small l turn).1

    -- v had it not
    was : get_or now.entries v blank ≡ get_or before.entries v blank
    was =
        g.entries v
        ∙ ap (λ b. cond (has star v && not b) (given (get_or before.entries v blank) (has before.begun.bits v) before.next) (get_or before.entries v blank)) low.member
        ∙ ap (λ b. cond (b && false) (given (get_or before.entries v blank) (has before.begun.bits v) before.next) (get_or before.entries v blank))
        (g.within v low.member)

    out : has rest' v ≡ false
    out = is v ∙ ap₂ (λ a b. a && not b) low.member (eq-eqb v v refl)

    here : (w : ℕ) → w ≡ v → get_or (set now.entries v e) w blank ≡ so_far before star rest' w
    here w h =
        let long = now.long in
        let below = low.below in
        ap (λ i. get_or (set now.entries v e) i blank) h ∙ get_or-set_same now.entries v e blank (omega arith) ∙ new
        ∙ ap (λ x. given x (has now.begun.bits v) now.next) was
        ∙ ap₂ (λ m n. given (get_or before.entries v blank) (has m v) n) g.begun g.next
        ∙ sym (ap₂ (λ a b. cond (a && not b) (given (get_or before.entries v blank) (has before.begun.bits v) before.next) (get_or before.entries v blank)) (g.within v low.member) out)
        ∙ ap (so_far before star rest') (sym h)

    there : (w : ℕ) → (w ≡ v → ⊥) → get_or (set now.entries v e) w blank ≡ so_far before star rest' w
    there w ne =
        get_or-set_other now.entries v w e blank ne ∙ g.entries w
        ∙ ap (λ b. cond (has star w && not b) (given (get_or before.entries w blank) (has before.begun.bits w) before.next) (get_or before.entries w blank))
        (sym (is w ∙ ap (λ b. has rest w && not b) (ne_eqb w v ne) ∙ and-true (has rest w)))

-- all have it
pub giving_all : (before : Numbers) (star rest : ℕ) (now : Numbers) → members rest ≡ [] → Giving before star rest now
    → (w : ℕ) → get_or now.entries w blank
    ≡ cond (has star w) (given (get_or before.entries w blank) (has before.begun.bits w) before.next) (get_or before.entries w blank)
giving_all before star rest now none g w =
    g.entries w
    ∙ ap (λ b. cond b (given (get_or before.entries w blank) (has before.begun.bits w) before.next) (get_or before.entries w blank))
    (ap (λ b. has star w && not b) (members_gone rest g.small none w) ∙ and-true (has star w))

-- whether v is the lowest baseline, as it is asked
pub asked_lowest : (m : ℕ) (o : Option ℕ) (v : ℕ) → m < 2 ^ 64 → v < 64 → MatchOption o (m ≡ 0) (Lowest m) → option_eq eqb o (Some v) ≡ eqb (lowest m) v
asked_lowest m None v l low e = sym (ne_eqb (lowest m) v (λ h. omega (arith, ap lowest e ∙ trailing_of_zero 64)))
asked_lowest m (Some i) v l low e = ap (λ i. eqb i v) (lowest_unique m i l e)

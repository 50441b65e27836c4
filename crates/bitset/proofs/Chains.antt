-- Chains of an iterator's methods over the members of a set, told by the members.
use Rattle.std.proofs.Common.{◌≡◌, ℕ, ◌^◌, ◌<◌, Bool, true, false, List, Option, MatchOption, MatchBool, length, get_or, refl, ap}
use denote.Param.Members.{Mut}
use Rattle.std.specs.Fn.{Called}
use Rattle.std.specs.Iterator.{YieldsFirst, YieldsThen, CallableAtEachTurn}
use Rattle.std.specs.List.{FoldsTo, AllWithin, HoldsAt}
use Rattle.std.proofs.lemmas.Iterator.{YieldsList, cases_from_all}
use Rattle.std.proofs.lemmas.Iterator.Adapters.{serves_from_places}
use Rattle.std.proofs.lemmas.Iterator.Consumers.{YieldsList-from_first}
use Rattle.std.proofs.lemmas.List.Elements.{All-from_all_within}
use Rattle.bitset.specs.declared.baselines.Baselines.{Baselines}
use Rattle.bitset.specs.declared.set.BaselineSet.{BaselineSet}
use Rattle.bitset.specs.Sets.{has, members}
use Rattle.bitset.proofs.Members.{has_lt}
use Rattle.bitset.proofs.Rising.{each_member, member_at}

-- an iterator gives the members that are left
pub members_come : (s : Baselines) (set : BaselineSet) → s.left ≡ set → YieldsList (YieldsFirst (λ (s : Baselines). members s.left.bits)) (λ x. x) s (members set.bits)
members_come s set e = YieldsList-from_first (λ x. x) (λ (s : Baselines). members s.left.bits) (members set.bits) (ap (λ (a : BaselineSet). members a.bits) e)

module _ {S : Type 0} {steps : S → Option ℕ → S → Type 0} {s : S} (m : ℕ) (come : YieldsList steps (λ x. x) s (members m)) where
  -- a closure that stays as it is may be called at each, if it may at each member
  pub serves_from_members : {F : Type 0} {R : F → ℕ → F → Type 0} {Q : F → ℕ → Type 0} {f : F}
      → ((x : ℕ) (q : F) → R f x q → q ≡ f) → ((x : ℕ) → x < 64 → has m x ≡ true → Q f x) → CallableAtEachTurn steps R Q s f
  serves_from_members stays at = serves_from_places come stays (λ x k l e. let b : (x < 64) × (has m x ≡ true) = rw e (member_at m k x l) in at x b.0 b.1)

  -- `all`: the closure's answer of each member is true, or that of some is false
  pub each_from_all : {F : Type 0} {g : Mut F (ℕ × Unit {0}) Bool} (u : S) (f : F) (r : Bool) (Yes No : ℕ → Type 0) → m < 2 ^ 64
      → ((xs : List ℕ) × (o : Option ℕ) × (j : F) × YieldsThen steps s xs o u × FoldsTo (λ p x q. Called g p (x, tt) true q) f xs j
      × MatchOption o (r ≡ true) (λ x. (r ≡ false) × ((h : F) × Called g j (x, tt) false h)))
      → ((x : ℕ) (q : F) → Called g f (x, tt) true q → (q ≡ f) × Yes x) → ((x : ℕ) (q : F) → Called g f (x, tt) false q → No x)
      → MatchBool r ((w : ℕ) → has m w ≡ true → Yes w) ((w : ℕ) × (has m w ≡ true) × No w)
  each_from_all u f r Yes No small ran on off = told r (cases_from_all u f r Yes No ran come on off)
    where
      told : (r : Bool) → MatchBool r (AllWithin Yes (members m) 0 (length (members m))) ((k : ℕ) × (k < length (members m)) × HoldsAt No (members m) k)
          → MatchBool r ((w : ℕ) → has m w ≡ true → Yes w) ((w : ℕ) × (has m w ≡ true) × No w)
      told true all = each_member Yes m small (All-from_all_within Yes (members m) all)
      told false one = (get_or (members m) one.0 0, (member_at m one.0 0 one.1).1, one.2 0)

-- then it is true where it is true of each member
pub true_from_each : (m : ℕ) (Yes No : ℕ → Type 0) (r : Bool) → ((x : ℕ) → Yes x → No x → ⊥) → m < 2 ^ 64
    → MatchBool r ((w : ℕ) → has m w ≡ true → Yes w) ((w : ℕ) × (has m w ≡ true) × No w)
    → ((w : ℕ) → w < 64 → has m w ≡ true → Yes w) → r ≡ true
true_from_each m Yes No true not-both small ran each = refl
true_from_each m Yes No false not-both small ran each = absurd (not-both ran.0 (each ran.0 (has_lt 64 m ran.0 small ran.1) ran.1) ran.2)

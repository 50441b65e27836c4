-- Near stars of a cluster that are taken over, one after the other.
use Rattle.std.proofs.Common.{◌≡◌, ℕ, ◌^◌, ◌<◌, Bool, true, false, cond, not, ◌&&◌, eqb, List, [], ◌∷◌, length, set, sym, refl, ap, ◌∙◌, ap₂, ⊎_elim, arith, length-set}
use mathlib.Core.Bool.{and-true}
use Rattle.std.proofs.lemmas.List.{get_or-set_same, get_or-set_other}
use Rattle.std.proofs.lemmas.Bool.{and_parts, eq-eqb, ne_eqb, cases_eq}
use Rattle.bitset.specs.declared.set.BaselineSet.{BaselineSet}
use Rattle.bitset.specs.Sets.{has, members, Lowest}
use Rattle.bitset.proofs.Rising.{members_turn, members_gone}
use Rattle.layout.specs.Tables.{none, bits_at}

-- The near stars of the baselines in the set that are not left are those of the others.
pub record Taking (all left : ℕ) (others was now : List BaselineSet) : Type 0 where
  pub long : length now ≡ 64
  pub small : left < 2 ^ 64
  pub within : (w : ℕ) → has left w ≡ true → has all w ≡ true
  pub is : (w : ℕ) → bits_at now w ≡ cond (has all w && not (has left w)) (bits_at others w) (bits_at was w)

-- none was taken over
pub taking_none : (all : ℕ) (others was : List BaselineSet) → all < 2 ^ 64 → length was ≡ 64 → Taking all all others was was
taking_none all others was l long = record { long = long; small = l; within = λ w h. h; is = λ w. none (has all w) (bits_at others w) (bits_at was w) }
  where
    none : (b : Bool) (x y : ℕ) → y ≡ cond (b && not b) x y
    none true x y = refl
    none false x y = refl

-- v is taken over too
pub taking_more : (all left left' v : ℕ) (others was now : List BaselineSet) (x : BaselineSet) → left' < 2 ^ 64 → members left ≡ v ∷ members left'
    → x.bits ≡ bits_at others v → Taking all left others was now → Taking all left' others was (set now v x)
taking_more all left left' v others was now x l turn e so = record {
  long = length-set now v x ∙ so.long;
  small = l;
  within = λ w h. so.within w (and_parts _ _ (sym (is w) ∙ h)).0;
  is = λ w. ⊎_elim (here w) (there w) (cases_eq w v);
}
  where
    low : Lowest left v
    low = (members_turn left left' v so.small l turn).0

    is : (k : ℕ) → has left' k ≡ (has left k && not (eqb k v))
    is = (members_turn left left' v so.small l turn).1

    taken : (has all v && not (has left' v)) ≡ true
    taken = ap₂ (λ a b. a && not b) (so.within v low.member) (is v ∙ ap₂ (λ a b. a && not b) low.member (eq-eqb v v refl))

    here : (w : ℕ) → w ≡ v → bits_at (set now v x) w ≡ cond (has all w && not (has left' w)) (bits_at others w) (bits_at was w)
    here w h =
        let long = so.long in
        let below = low.below in
        ap (bits_at (set now v x)) h ∙ ap (λ (s : BaselineSet). s.bits) (get_or-set_same now v x none (omega arith)) ∙ e
        ∙ sym (ap (λ b. cond b (bits_at others v) (bits_at was v)) taken)
        ∙ ap (λ w. cond (has all w && not (has left' w)) (bits_at others w) (bits_at was w)) (sym h)

    there : (w : ℕ) → (w ≡ v → ⊥) → bits_at (set now v x) w ≡ cond (has all w && not (has left' w)) (bits_at others w) (bits_at was w)
    there w ne =
        ap (λ (s : BaselineSet). s.bits) (get_or-set_other now v w x none ne) ∙ so.is w
        ∙ ap (λ b. cond (has all w && not b) (bits_at others w) (bits_at was w))
        (sym (is w ∙ ap (λ b. has left w && not b) (ne_eqb w v ne) ∙ and-true (has left w)))

-- all are taken over
pub taking_all : (all left : ℕ) (others was now : List BaselineSet) → members left ≡ [] → Taking all left others was now
    → (w : ℕ) → bits_at now w ≡ cond (has all w) (bits_at others w) (bits_at was w)
taking_all all left others was now none so w =
    so.is w ∙ ap (λ b. cond (has all w && not b) (bits_at others w) (bits_at was w)) (members_gone left so.small none w)
    ∙ ap (λ b. cond b (bits_at others w) (bits_at was w)) (and-true (has all w))

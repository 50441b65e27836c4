-- Entries that tell which baselines are doubtful.
use Rattle.std.proofs.Common.{◌≡◌, ℕ, zero, suc, ◌+◌, ◌<◌, ◌&&◌, ltb, List, length, get_or, set, replicate, sym, refl, ap, ◌∙◌, ⊎_elim, arith, length-set}
use Rattle.std.proofs.lemmas.List.{get_or-set_same, get_or-set_other}
use Rattle.std.proofs.lemmas.Bool.{cases_eq, lt-ltb, le-ltb}
use Rattle.std.proofs.lemmas.Bool.Decides.{nat_tests}
use Rattle.bitset.specs.Sets.{has}
use Rattle.theory.specs.declared.record.Entry.{Entry}
use Rattle.theory.specs.Record.{blank}
use Rattle.layout.specs.Numbers.{unnumbered}

-- The entries below n tell which baselines are doubtful.
pub record Marked (doubtful : ℕ) (entries : List Entry) (n : ℕ) : Type 0 where
  pub long : length entries ≡ 64
  pub told : (w : ℕ) → get_or entries w blank ≡ unnumbered (ltb w n && has doubtful w)

-- none is told
pub marked_none : (doubtful : ℕ) (entries : List Entry) → entries ≡ replicate 64 blank → Marked doubtful entries 0
marked_none doubtful entries e = record {
  long = ap length e;
  told = λ w. ap (λ l. get_or l w blank) e ∙ blanks 64 w ∙ ap (λ b. unnumbered (b && has doubtful w)) (sym (le-ltb w 0 (omega arith)));
}
  where
    blanks : (n w : ℕ) → get_or (replicate n blank) w blank ≡ blank
    blanks zero w = refl
    blanks (suc n) zero = refl
    blanks (suc n) (suc w) = blanks n w

-- one more is told
pub marked_more : (doubtful : ℕ) (entries : List Entry) (v : ℕ) (e : Entry) → v < 64 → Marked doubtful entries v
    → e ≡ record { lower = (get_or entries v blank).lower; higher = (get_or entries v blank).higher; doubtful = has doubtful v }
    → Marked doubtful (set entries v e) (v + 1)
marked_more doubtful entries v e l m new = record {
  long = simp length-set m.long;
  told = λ w. ⊎_elim (here w) (there w) (cases_eq w v);
}
  where
    here : (w : ℕ) → w ≡ v → get_or (set entries v e) w blank ≡ unnumbered (ltb w (v + 1) && has doubtful w)
    here w h =
        let long = m.long in
        ap (λ i. get_or (set entries v e) i blank) h ∙ get_or-set_same entries v e blank (omega arith) ∙ new
        ∙ ap (λ (x : Entry). record { lower = x.lower; higher = x.higher; doubtful = has doubtful v }) (m.told v)
        ∙ ap (λ i. unnumbered (has doubtful i)) (sym h)
        ∙ ap (λ b. unnumbered (b && has doubtful w)) (sym (lt-ltb w (v + 1) (omega arith)))

    there : (w : ℕ) → (w ≡ v → ⊥) → get_or (set entries v e) w blank ≡ unnumbered (ltb w (v + 1) && has doubtful w)
    there w ne = get_or-set_other entries v w e blank ne ∙ m.told w ∙ ap (λ b. unnumbered (b && has doubtful w)) (same w v ne)
      where
        same : (w v : ℕ) → (w ≡ v → ⊥) → ltb w v ≡ ltb w (v + 1)
        same w v ne = grind (arith, nat_tests)

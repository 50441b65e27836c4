-- The two ends of a baseline, told by a side, and how they part the baselines that share with it.
use Rattle.std.proofs.Common.{◌≡◌, ℕ, ◌+◌, Bool, true, false, cond, not, ◌&&◌, ◌≢◌, ◌⊎◌, sym, refl, ap, ◌∙◌, inl, inr, ⊎_elim, arith}
use Rattle.std.proofs.lemmas.Bool.{eqb-true, eq-eqb, or_left, or_right, or_cases}
use Rattle.std.proofs.lemmas.Bool.Decides.{nat_tests}
use Rattle.evidence.specs.Table.{Table}
use Rattle.theory.specs.Layout.{Ends, stands, LayoutOn}

-- one of the two imagers of a baseline
abbrev pub end_at : Ends → Bool → ℕ
end_at d side = cond side d.0 d.1

-- both ends of a baseline are at it
pub stands_end : (d : Ends) (s : Bool) → stands (end_at d s) d ≡ true
stands_end d true = or_left _ _ (eq-eqb d.0 d.0 refl)
stands_end d false = or_right _ _ (eq-eqb d.1 d.1 refl)

-- at one baseline the ends of either layout stand alike
pub both_stand : (e f : ℕ → Ends) (i j : ℕ) (s q : Bool) → i ≡ j → stands (end_at (e i) s) (e j) ≡ stands (end_at (f i) q) (f j)
both_stand e f i j s q p =
    ap (λ k. stands (end_at (e i) s) (e k)) (sym p) ∙ stands_end (e i) s
    ∙ sym (stands_end (f i) q) ∙ ap (λ k. stands (end_at (f i) q) (f k)) p

-- a side is the one or the other
pub one_or_other : (q s : Bool) → (q ≡ s) ⊎ (q ≡ not s)
one_or_other true true = inl refl
one_or_other true false = inr refl
one_or_other false true = inr refl
one_or_other false false = inl refl

-- an imager at a baseline is one of its two ends
pub end_side : (d : Ends) (a : ℕ) → stands a d ≡ true → (s : Bool) × (a ≡ end_at d s)
end_side d a h = ⊎_elim (λ p. (true, eqb-true a d.0 p)) (λ p. (false, eqb-true a d.1 p)) (or_cases _ _ h)

-- it is the one end or the other
pub which_end : (d : Ends) (s : Bool) (a : ℕ) → stands a d ≡ true → (a ≡ end_at d s) ⊎ (a ≡ end_at d (not s))
which_end d s a h =
    let x = end_side d a h in
    ⊎_elim (λ e. inl (x.1 ∙ ap (end_at d) e)) (λ e. inr (x.1 ∙ ap (end_at d) e)) (one_or_other x.0 s)

-- of two tests with one count between them each passes just where the other does not
one_of_two : (x y r : Bool) → cond x 1 0 + cond y 1 0 ≡ cond r 1 0 → (x ≡ (r && not y)) × (y ≡ (r && not x))
one_of_two x y r h = (grind (arith, nat_tests), grind (arith, nat_tests))

module _ {t : Table} {among : ℕ → Type 0} {e : ℕ → Ends} (fits : LayoutOn t among e) where
  -- the two ends of a baseline are different
  pub ends_differ : (i : ℕ) → among i → (s : Bool) → end_at (e i) s ≢ end_at (e i) (not s)
  ends_differ i c true h = fits.different i c h
  ends_differ i c false h = fits.different i c (sym h)

  -- a baseline that shares with i is at one end of i and not at the other
  pub one_end : (i j : ℕ) → among i → among j → i ≢ j → (s : Bool)
      → (stands (end_at (e i) s) (e j) ≡ (t.shares i j && not (stands (end_at (e i) (not s)) (e j))))
      × (stands (end_at (e i) (not s)) (e j) ≡ (t.shares i j && not (stands (end_at (e i) s) (e j))))
  one_end i j ci cj ij true = one_of_two _ _ _ (fits.meets i j ci cj ij)
  one_end i j ci cj ij false = let x = one_of_two _ _ _ (fits.meets i j ci cj ij) in (x.1, x.0)

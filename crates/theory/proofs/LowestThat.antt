-- The lowest number that passes a test: where there is none, none passes.
use Rattle.std.proofs.Common.{◌≡◌, ℕ, zero, suc, ◌<◌, Bool, true, false, cond, Some, None, Option, sym, refl, ap, ◌∙◌, ⊎_elim, arith}
use Rattle.std.proofs.lemmas.Bool.{cases_eq}
use Rattle.theory.specs.Answer.{or_else, lowest_that}

-- one more number, which does not pass
one_more : (p : ℕ → Bool) (n : ℕ) → p n ≡ false → ((v : ℕ) → v < n → p v ≡ false) → (v : ℕ) → v < suc n → p v ≡ false
one_more p n here before v h = ⊎_elim (λ e. ap p e ∙ here) (λ ne. before v (omega arith)) (cases_eq v n)

pub lowest_none : (p : ℕ → Bool) (n : ℕ) → lowest_that p n ≡ None → (v : ℕ) → v < n → p v ≡ false
unfolding lowest_that
lowest_none p zero e = λ v h. absurd (omega arith)
lowest_none p (suc n) e = go (lowest_that p n) (p n) refl (lowest_none p n) e
  where
    go : (o : Option ℕ) (b : Bool) → p n ≡ b → (o ≡ None → (v : ℕ) → v < n → p v ≡ false)
        → or_else o (cond b (Some n) None) ≡ None → (v : ℕ) → v < suc n → p v ≡ false
    go (Some i) b here before e = let z : ◌≡◌ {A = ℕ} 0 1 = cc in absurd (omega arith)
    go None true here before e = let z : ◌≡◌ {A = ℕ} 0 1 = cc in absurd (omega arith)
    go None false here before e = one_more p n here (before refl)

pub lowest_some : (p : ℕ → Bool) (n i : ℕ) → lowest_that p n ≡ Some i → (i < n) × (p i ≡ true) × ((v : ℕ) → v < i → p v ≡ false)
unfolding lowest_that
lowest_some p zero i e = let z : ◌≡◌ {A = ℕ} 0 1 = cc in absurd (omega arith)
lowest_some p (suc n) i e = go (lowest_that p n) (p n) refl (lowest_some p n i) (lowest_none p n) e
  where
    go : (o : Option ℕ) (b : Bool) → p n ≡ b
        → (o ≡ Some i → (i < n) × (p i ≡ true) × ((v : ℕ) → v < i → p v ≡ false))
        → (o ≡ None → (v : ℕ) → v < n → p v ≡ false)
        → or_else o (cond b (Some n) None) ≡ Some i → (i < suc n) × (p i ≡ true) × ((v : ℕ) → v < i → p v ≡ false)
    go (Some j) b here before none e = let x = before e in (omega (arith, x.0), x.1, x.2)
    go None false here before none e = let z : ◌≡◌ {A = ℕ} 0 1 = cc in absurd (omega arith)
    go None true here before none e =
        let q : n ≡ i = cc in
        (omega arith, ap p (sym q) ∙ here, λ v h. none refl v (omega arith))

-- the other way round: where none passes there is none
pub none_lowest : (p : ℕ → Bool) (n : ℕ) → ((v : ℕ) → v < n → p v ≡ false) → lowest_that p n ≡ None
unfolding lowest_that
none_lowest p zero h = refl
none_lowest p (suc n) h =
    let before = none_lowest p n (λ v l. h v (omega arith)) in
    let here = h n (omega arith) in
    rw (before, here)

-- and a number that passes, with none below it, is the lowest
pub some_lowest : (p : ℕ → Bool) (n i : ℕ) → i < n → p i ≡ true → ((v : ℕ) → v < i → p v ≡ false) → lowest_that p n ≡ Some i
unfolding lowest_that
some_lowest p zero i l yes-i h = absurd (omega arith)
some_lowest p (suc n) i l yes-i h =
    ⊎_elim
    (λ e. let before = none_lowest p n (λ v k. h v (omega arith)) in
    let here : p n ≡ true = ap p (sym e) ∙ yes-i in
    rw (before, here) (ap Some (sym e)))
    (λ ne. let before = some_lowest p n i (omega arith) yes-i h in rw before)
    (cases_eq i n)

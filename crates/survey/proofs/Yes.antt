-- Questions that were all answered yes.
use Rattle.std.proofs.Common.{◌≡◌, ℕ, Bool, true, false, cond, Some, None, Option, refl, arith}
use Rattle.evidence.specs.declared.refusal.Refusal.{Refusal}

-- the first was, and the rest were
pub yes : {b : Bool} {rest : Option Refusal} (e : Refusal) → cond b rest (Some e) ≡ None → (b ≡ true) × (rest ≡ None)
yes {b} {rest} e q = cases b q
  where
    cases : (c : Bool) → cond c rest (Some e) ≡ None → (c ≡ true) × (rest ≡ None)
    cases true p = (refl, p)
    cases false p = let z : ◌≡◌ {A = ℕ} 0 1 = cc in absurd (omega arith)

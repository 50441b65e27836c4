-- Three baselines with a common imager: the test tells it.
use Rattle.std.proofs.Common.{◌≡◌, ℕ, true, false, ◌⊎◌, ◌↔◌, sym, ap, ◌∙◌, inl, inr, ⊎_elim}
use Rattle.std.proofs.lemmas.Bool.{and_parts, and_from, or_left, or_right, or_cases, cases_Bool, both_ways}
use Rattle.theory.specs.Layout.{Ends, stands}
use Rattle.theory.specs.Groups.{Trio, has_trio}
use Rattle.theory.proofs.Ends.{which_end, stands_end}

-- three with a common imager pass the test
pub trio_tested : (e : ℕ → Ends) (i j k : ℕ) → Trio e i j k → has_trio e i j k ≡ true
trio_tested e i j k t =
    ⊎_elim
    (λ p. or_left _ _ (and_from _ _ (ap (λ a. stands a (e j)) (sym p) ∙ t.2) (ap (λ a. stands a (e k)) (sym p) ∙ t.3)))
    (λ p. or_right _ _ (and_from _ _ (ap (λ a. stands a (e j)) (sym p) ∙ t.2) (ap (λ a. stands a (e k)) (sym p) ∙ t.3)))
    (which_end (e i) true t.0 t.1)

-- three that pass the test have one
pub tested_trio : (e : ℕ → Ends) (i j k : ℕ) → has_trio e i j k ≡ true → Trio e i j k
tested_trio e i j k h =
    ⊎_elim
    (λ p. let x = and_parts _ _ p in ((e i).0, stands_end (e i) true, x.0, x.1))
    (λ p. let x = and_parts _ _ p in ((e i).1, stands_end (e i) false, x.0, x.1))
    (or_cases _ _ h)

-- three have a common imager just where the test passes
pub trio_test : (e : ℕ → Ends) (i j k : ℕ) → Trio e i j k ↔ (has_trio e i j k ≡ true)
trio_test e i j k = (trio_tested e i j k, tested_trio e i j k)

-- three have a common imager or they have none
pub trio_cases : (e : ℕ → Ends) (i j k : ℕ) → Trio e i j k ⊎ (Trio e i j k → ⊥)
trio_cases e i j k =
    ⊎_elim
    (λ h. inl (tested_trio e i j k h))
    (λ h. inr (λ t. both_ways _ h (trio_tested e i j k t)))
    (cases_Bool (has_trio e i j k))

-- A resolve is refused for a clash exactly when the table has no layout.
use Rattle.std.proofs.Common.{◌≡◌, ℕ, Bool, true, false, ◌↔◌, [], ◌∷◌, Some, Ok, Err, Result, ap, subst, inl, inr, arith}
use Rattle.evidence.specs.declared.refusal.Refusal.{Refusal}
use Rattle.evidence.specs.declared.refusal.Refusal.TheVariants.{IssueOpen, NoLayout}
use Rattle.evidence.specs.Refusals.{first_no}
use Rattle.evidence.specs.Table.{Table, Sound}
use Rattle.theory.specs.Layout.{Ends, Layout}
use Rattle.theory.specs.Placed.{Clash}
use Rattle.theory.specs.Record.{ends_of}
use Rattle.theory.proofs.Whole.{layout_by_clusters}
use Rattle.survey.specs.declared.survey.Resolution.{Resolution}
use Rattle.survey.specs.Views.{View, idle}
use Rattle.survey.specs.Resolves.{Resolved}

-- an issue that is not open is no ground
no_ground : (b : Bool) (e : Refusal) → b ≡ true → first_no ((b, IssueOpen) ∷ []) ≡ Some e → ⊥
no_ground true e h q = let z : ◌≡◌ {A = ℕ} 0 1 = cc in omega arith
no_ground false e h q = let z : ◌≡◌ {A = ℕ} 0 1 = cc in omega arith

named : (t : Table) (e : Refusal) (i j : ℕ) → e ≡ NoLayout i → ◌≡◌ {A = Result Resolution Refusal} (Err e) (Err (NoLayout j)) → Clash t i → Clash t j
named t e i j is q clash = let same : i ≡ j = cc in subst (Clash t) same clash

pub clash_exactly : (v w : View) (r : Result Resolution Refusal) → Sound v.table → idle v.state ≡ true → Resolved v r w
    → (((i : ℕ) × (r ≡ Err (NoLayout i))) ↔ (((f : ℕ → Ends) × Layout v.table f) → ⊥))
    × ((i : ℕ) → r ≡ Err (NoLayout i) → Clash v.table i)
clash_exactly v w (Ok a) sound is st = (
  (
    (λ x. let z : ◌≡◌ {A = ℕ} 0 1 = cc x.1 in absurd (omega arith)),
    (λ none. absurd (none (ends_of st.1.0.record, st.1.1.chosen.fits))),
  ),
  λ i e. let z : ◌≡◌ {A = ℕ} 0 1 = cc in absurd (omega arith),
)
clash_exactly v w (Err e) sound is (inl q, same) = absurd (no_ground (idle v.state) e is q)
clash_exactly v w (Err e) sound is (inr (q, (i, names, clash)), same) = (
  (
    (λ x l. clash.none ((layout_by_clusters v.table sound).0 l i clash.below)),
    (λ none. (i, ap (λ x. Err x) names)),
  ),
  λ j h. named v.table e i j names h clash,
)

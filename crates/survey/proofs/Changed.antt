-- What the calls that change a ledger make of the view.
use Rattle.std.proofs.Common.{◌≡◌, ℕ, Bool, cond, List, [], ◌∷◌, ◌++◌, refl, ap, ◌∙◌}
use Rattle.evidence.specs.Table.{Table}
use Rattle.evidence.specs.Changes.{Same, Added, Put}
use Rattle.survey.specs.declared.state.State.{State}
use Rattle.survey.specs.declared.state.State.TheVariants.{Unresolved}
use Rattle.survey.specs.Views.{View}
use Rattle.survey.specs.Marks.{with_baseline, with_mark}
use Rattle.survey.proofs.Tables.{same_table, added_table, put_table}

-- A view with its ledger's table and room, its spans and its state replaced.
abbrev pub with : View → Table → ℕ → List ℕ → State → View
with v table most spans state = record { number = v.number; table = table; most = most; spans = spans; state = state; begun = v.begun }

pub with_path : (v : View) {t u : Table} {m n : ℕ} {xs ys : List ℕ} {a b : State} → t ≡ u → m ≡ n → xs ≡ ys → a ≡ b → with v t m xs a ≡ with v u n ys b
with_path v p q r s = λ x. with v (p x) (q x) (r x) (s x)

module _ (v : View) {u : Table} {most : ℕ} (room : most ≡ v.most) where
  -- nothing changed
  pub unchanged : Same v.table u → with v u most v.spans v.state ≡ v
  unchanged s = with_path v (same_table s) room refl refl

  -- one baseline more
  pub enlisted : (span : ℕ) {n : ℕ} {spans : List ℕ} → Added v.table u n → spans ≡ v.spans ++ (span ∷ []) → with v u most spans Unresolved ≡ with_baseline v span
  enlisted span a more = with_path v (added_table a) room more refl

  -- one pair set
  pub marked : (i j : ℕ) (on changed : Bool) (state : State) → Put v.table u i j on changed → state ≡ cond changed Unresolved v.state
      → with v u most v.spans state ≡ with_mark v i j on
  marked i j on changed state p e = with_path v (put_table p) room refl (e ∙ ap (λ b. cond b Unresolved v.state) p.told)

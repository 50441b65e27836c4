-- What a survey of two baselines that share answers when it is resolved and asked.
use Rattle.std.proofs.Common.{◌≡◌, ℕ, ◌<◌, Bool, true, false, ◌↔◌, IfOk, None, Result, ◌∙◌, ap₂, ⊎_elim}
use Rattle.std.proofs.lemmas.Result.{IfOk-weaker}
use Rattle.evidence.specs.declared.refusal.Refusal.{Refusal}
use Rattle.theory.specs.Layout.{Ends}
use Rattle.theory.specs.Clusters.{Doubtful}
use Rattle.theory.proofs.Whole.{layout_by_clusters}
use Rattle.survey.specs.declared.survey.Resolution.{Resolution}
use Rattle.survey.specs.History.{Resolve, table_of}
use Rattle.survey.specs.Resolves.{how_many}
use Rattle.survey.specs.Refusing.{Refused, refusal}
use Rattle.survey.specs.Answering.{Answered, ByLayout}
use Rattle.worked.specs.Deeds.{shared}
use Rattle.worked.proofs.Pair.{sound, finds, the_answer, certain}

-- it is not refused: the pair has a layout
pub resolves : (n most : ℕ) (r : Result Resolution Refusal) → Refused n most shared (Resolve r) → refusal r ≡ None
resolves n most r q =
    ⊎_elim
    (λ none. none)
    (λ clashes.
    let i = clashes.1.0 in
    let clash = clashes.1.2 in
    absurd (clash.none ((layout_by_clusters (table_of shared) sound).0 (_, finds.solved.chosen.fits) i clash.below)))
    q

pub resolution : (n : ℕ) (r : Result Resolution Refusal) → Answered n shared (Resolve r) → IfOk r (λ a. a ≡ record { imagers = 3; doubtful = 0 })
resolution n r q = IfOk-weaker r _ _ (λ a k.
    let is = the_answer k.2 in
    let few : a.doubtful ≡ 0 = k.3 ∙ counted k.1 is.certain_first is.certain_second in
    λ i. record { imagers = is.three i; doubtful = few i }) q
  where
    counted : (doubtful : ℕ → Bool) → doubtful 0 ≡ false → doubtful 1 ≡ false → how_many doubtful 2 ≡ 0
    counted doubtful zeroth first = rw (first, zeroth)

-- what is told by the layout is that of the answer
pub by_layout : {A : Type 0} (tell : Ends → Ends → A) (r : Result A Refusal)
    → IfOk r (λ told. ByLayout shared (λ ends. told ≡ tell (ends 0) (ends 1)))
    → IfOk r (λ told. told ≡ tell (0, 1) (0, 2))
by_layout tell r q = IfOk-weaker r _ _ (λ told k. let is = the_answer k.3 in k.4 ∙ ap₂ tell is.first is.second) q

-- neither baseline is doubtful
pub no_doubt : (i : ℕ) → i < 2 → (r : Result Bool Refusal) → IfOk r (λ told. (told ≡ true) ↔ Doubtful (table_of shared) i) → IfOk r (λ told. told ≡ false)
no_doubt i l r q = IfOk-weaker r _ _ (λ told k. certain i l told k) q

-- What each call answers, by what was done before it.
use Rattle.std.specs.Prelude.{◌≡◌, ℕ, ◌+◌, Bool, true, not, ◌↔◌, List, IfOk, Ok, Err, Result}
use Rattle.evidence.specs.declared.refusal.Refusal.{Refusal}
use Rattle.theory.specs.Layout.{Ends}
use Rattle.theory.specs.Clusters.{Doubtful}
use Rattle.theory.specs.Placed.{Solved}
use Rattle.survey.specs.Slips.{slip}
use Rattle.survey.specs.Told.{together}
use Rattle.survey.specs.Resolves.{how_many}
use Rattle.survey.specs.History.{Event, Enlist, Share, Part, Resolve, Begin, WriteProfile, WriteTable, Withdraw, AskEnds, AskCommon, AskDoubt, Deed, baselines, sharing, table_of, issues}

-- What a resolved survey tells is that of the chosen, numbered layout of its table.
abbrev pub ByLayout : List Deed → ((ℕ → Ends) → Type 0) → Type 0
ByLayout d says = (imagers : ℕ) × (ends : ℕ → Ends) × (doubtful : ℕ → Bool) × Solved (table_of d) imagers ends doubtful × says ends

-- A paper that is handed back is the one that was given,
abbrev pub HandedBack : {A P : Type 0} → P → Result A (P × Refusal) → Type 0
HandedBack p (Ok a) = Unit {0}
HandedBack p (Err (back, e)) = back ≡ p

-- and the buffer is then as it was.
abbrev pub Untouched : {A P : Type 0} → List ℕ → List ℕ → Result A (P × Refusal) → Type 0
Untouched old new (Ok a) = Unit {0}
Untouched old new (Err e) = new ≡ old

-- What an accepted call answered, by what was done before it, and what a refused one handed back.
abbrev pub Answered : ℕ → List Deed → Event → Type 0
Answered n d (Enlist span r) = IfOk r (λ k. k ≡ baselines d)
Answered n d (Share i j r) = IfOk r (λ changed. changed ≡ not (sharing d i j))
Answered n d (Part i j r) = IfOk r (λ changed. changed ≡ sharing d i j)
Answered n d (Resolve r) = IfOk r (λ a. (ends : ℕ → Ends) × (doubtful : ℕ → Bool)
    × Solved (table_of d) a.imagers ends doubtful × (a.doubtful ≡ how_many doubtful (baselines d)))
Answered n d (Begin r) = IfOk r (λ p. p ≡ slip n (issues d + 1))
Answered n d (WriteProfile p at old new r) = IfOk r (λ a. a.0 ≡ slip n (issues d)) × HandedBack p r × Untouched old new r
Answered n d (WriteTable p at old new r) = HandedBack p r × Untouched old new r
Answered n d (Withdraw p r) = HandedBack p r
Answered n d (AskEnds i r) = IfOk r (λ told. ByLayout d (λ ends. told ≡ ends i))
Answered n d (AskCommon i j r) = IfOk r (λ told. ByLayout d (λ ends. told ≡ together (ends i) (ends j)))
Answered n d (AskDoubt i r) = IfOk r (λ told. (told ≡ true) ↔ Doubtful (table_of d) i)

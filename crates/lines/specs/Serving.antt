-- What a request makes of a survey: the calls that it makes, and what is answered.
use Rattle.std.specs.Prelude.{◌≡◌, ℕ, ◌+◌, Bool, true, false, cond, List, [], ◌∷◌, ◌++◌, None, Ok, Err, Result}
use Rattle.evidence.specs.declared.refusal.Refusal.{Refusal}
use Rattle.evidence.specs.Refusals.{first_no}
use Rattle.survey.specs.declared.slip.Slip.{Slip}
use Rattle.survey.specs.declared.slip.ForProfile.{ForProfile}
use Rattle.survey.specs.declared.slip.ForTable.{ForTable}
use Rattle.survey.specs.declared.survey.Resolution.{Resolution}
use Rattle.survey.specs.declared.state.State.TheVariants as stage
use Rattle.survey.specs.Views.{View}
use Rattle.survey.specs.Questions.{begin_questions}
use Rattle.survey.specs.Marks.{Enlisted, Marked}
use Rattle.survey.specs.Resolves.{Resolved}
use Rattle.survey.specs.Issues.{Began, with_issue, profile_text, table_text}
use Rattle.survey.specs.History.{Event}
use Rattle.survey.specs.History as calls
use Rattle.lines.specs.declared.request.Request.{Request}
use Rattle.lines.specs.declared.request.Request.TheVariants.{Enlist, Share, Part, Resolve, Issue}
use Rattle.lines.specs.Replies.{ok_line}

-- The line of what a call answered, or its refusal.
abbrev pub answer_line : {A : Type 0} → (A → List ℕ) → Result A Refusal → Result (List ℕ) Refusal
answer_line told (Ok a) = Ok (ok_line (told a))
answer_line told (Err e) = Err e

-- A pair that changed is told as 1, and one that did not as 0.
abbrev pub change : Bool → List ℕ
change changed = cond changed 1 0 ∷ []

-- An issue is begun, its profile and its table are written, one after the other, and it is ended; the two files are answered.
-- Or its begin is refused, and nothing else is called.
abbrev pub Issues : View → List Event → Result (List ℕ) Refusal → View → Type 0
Issues v made (Ok text) w =
    (p : Slip ForProfile) × (q : Slip ForTable) × (k m : ℕ) × (old mid new : List ℕ)
    × (made ≡ calls.WriteTable q k mid new (Ok m) ∷ calls.WriteProfile p 0 old mid (Ok (q, k)) ∷ calls.Begin (Ok p) ∷ [])
    × (first_no (begin_questions v) ≡ None)
    × (w ≡ with_issue v (v.begun + 1) stage.Resolved)
    × (text ≡ profile_text w ++ table_text w)
Issues v made (Err e) w = (made ≡ calls.Begin (Err e) ∷ []) × Began v (Err e) w

-- The calls that a request makes, the newest first, what is answered, and the views before and after.
abbrev pub Serves : View → Request → List Event → Result (List ℕ) Refusal → View → Type 0
Serves v (Enlist span) made a w =
    (r : Result ℕ Refusal) × (made ≡ calls.Enlist span r ∷ []) × Enlisted v span r w × (a ≡ answer_line (λ n. n ∷ []) r)
Serves v (Share i j) made a w =
    (r : Result Bool Refusal) × (made ≡ calls.Share i j r ∷ []) × Marked v i j true r w × (a ≡ answer_line change r)
Serves v (Part i j) made a w =
    (r : Result Bool Refusal) × (made ≡ calls.Part i j r ∷ []) × Marked v i j false r w × (a ≡ answer_line change r)
Serves v Resolve made a w =
    (r : Result Resolution Refusal) × (made ≡ calls.Resolve r ∷ []) × Resolved v r w
    × (a ≡ answer_line (λ found. found.imagers ∷ found.doubtful ∷ []) r)
Serves v Issue made a w = Issues v made a w

-- An issue that is begun, written out and ended.
use Rattle.std.proofs.Common.{◌≡◌, ℕ, ◌+◌, ◌≤◌, List, [], ◌++◌, length, Some, Ok, refl, sym, ap, ◌∙◌, arith}
use Rattle.std.specs.Option.{option_map_or}
use Rattle.files.specs.Writing.{Puts}
use Rattle.files.specs.Splices.{puts_then}
use Rattle.survey.specs.declared.slip.Slip.{Slip}
use Rattle.survey.specs.declared.slip.ForProfile.{ForProfile}
use Rattle.survey.specs.declared.slip.ForTable.{ForTable}
use Rattle.survey.specs.declared.state.Layout.{Layout}
use Rattle.survey.specs.declared.state.State.{State}
use Rattle.survey.specs.declared.state.State.TheVariants.{Resolved, Begun, Profiled}
use Rattle.survey.specs.Views.{View, layout_of}
use Rattle.survey.specs.Issues.{Began, ProfileWritten, TableWritten, with_issue, at_stage, profile_by, table_by, profile_text, table_text}
use Rattle.survey.proofs.Stages.{same_layout, next_stage}

-- What an issue left: the survey as it was but for the number of issues, and the two files, one after the other.
pub record Issued (v w : View) (old new : List ℕ) (n : ℕ) : Type 0 where
  pub after : w ≡ with_issue v (v.begun + 1) Resolved
  pub files : Puts old new 0 n (profile_text w ++ table_text w)

-- the files are the same at each stage of the issue
module _ (v : View) (stage : Layout → State) (keeps : (l : Layout) → layout_of (stage l) ≡ Some l) (w : View) (is : w ≡ with_issue v (v.begun + 1) stage) where
  the_profile : profile_text w ≡ option_map_or (profile_by (with_issue v (v.begun + 1) stage)) (layout_of v.state) []
  the_profile = ap profile_text is ∙ ap (λ l. option_map_or (profile_by (with_issue v (v.begun + 1) stage)) l []) (same_layout stage keeps v.state)

  the_table : table_text w ≡ option_map_or (table_by (with_issue v (v.begun + 1) stage)) (layout_of v.state) []
  the_table = ap table_text is ∙ ap (λ l. option_map_or (table_by (with_issue v (v.begun + 1) stage)) l []) (same_layout stage keeps v.state)

pub issued : (v a b w : View) (p : Slip ForProfile) (q : Slip ForTable) (k m : ℕ) (old mid new : List ℕ)
    → Began v (Ok p) a → ProfileWritten a p 0 old mid (Ok (q, k)) b → TableWritten b q k mid new (Ok m) w
    → length (profile_text a) + length (table_text a) ≤ 4096 → 4096 ≤ length old
    → Issued v w old new (k + m)
issued v a b w p q k m old mid new began profile table fit room =
    let issue = v.begun + 1 in
    let middle : b ≡ with_issue v issue Profiled = profile.4 ∙ ap (λ (x : View). at_stage x Profiled) began.1.1 ∙ next_stage Begun (λ l. refl) v issue Profiled in
    let after : w ≡ with_issue v issue Resolved = table.3 ∙ ap (λ (x : View). at_stage x Resolved) middle ∙ next_stage Profiled (λ l. refl) v issue Resolved in
    let same_profile : profile_text a ≡ profile_text w = the_profile v Begun (λ l. refl) a began.1.1 ∙ sym (the_profile v Resolved (λ l. refl) w after) in
    let of_table : table_text b ≡ table_text w = the_table v Profiled (λ l. refl) b middle ∙ sym (the_table v Resolved (λ l. refl) w after) in
    let rows : length (table_text b) ≡ length (table_text a) =
    ap length (the_table v Profiled (λ l. refl) b middle ∙ sym (the_table v Begun (λ l. refl) a began.1.1)) in
    let first : Puts old mid 0 k (profile_text w) = rw (sym same_profile) (record { ends = omega (arith, profile.2); holds = profile.3 }) in
    let second : Puts mid new k (k + m) (table_text w) =
    rw (sym of_table) (record { ends = ap (λ (x : ℕ). k + x) table.1; holds = table.2 }) in
    record { after = after; files = puts_then first second (omega (arith, profile.2, table.1, rows, fit, room)) }

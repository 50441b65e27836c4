-- Each call is refused, and answered, as the history before it says.
use Rattle.std.proofs.Common.{◌≡◌, ℕ, Bool, true, false, not, ◌&&◌, eqb, List, [], length, Some, Ok, Err, sym, refl, ap, ◌∙◌, subst, inl, inr, arith}
use mathlib.Core.Bool.{beq}
use Rattle.std.specs.Option.{option_map_or}
use Rattle.std.proofs.lemmas.Bool.{false≢true, and_parts, eqb-true, eqb-false, ltb-true}
use Rattle.theory.specs.Placed.{Solved}
use Rattle.theory.specs.Record.{ends_of, doubt_of}
use Rattle.files.specs.Writing.{splice}
use Rattle.survey.specs.declared.papers.Paper.TheVariants.{Opens, Closes}
use Rattle.survey.specs.declared.slip.Slip.{Slip}
use Rattle.survey.specs.declared.slip.ForProfile.{ForProfile}
use Rattle.survey.specs.declared.slip.ForTable.{ForTable}
use Rattle.survey.specs.declared.state.Layout.{Layout}
use Rattle.survey.specs.Views.{View, layout_of, has_layout, idle, awaits_profile, awaits_table}
use Rattle.survey.specs.Slips.{slip}
use Rattle.survey.specs.Papers.{admits_opening}
use Rattle.survey.specs.Issues.{profile_by, table_by, profile_text, table_text}
use Rattle.survey.specs.History.{Event, Enlist, Share, Part, Resolve, Begin, WriteProfile, WriteTable, Withdraw, AskEnds, AskCommon, AskDoubt, Deed, baselines, sharing, table_of, is_resolved, issues, is_open, profiles}
use Rattle.survey.specs.Told.{together}
use Rattle.survey.specs.Runs.{Step}
use Rattle.survey.specs.Refusing.{Refused, ProfileOf, TableOf, right_opening, right_closing}
use Rattle.survey.specs.Answering.{Answered}
use Rattle.survey.proofs.Yes.{yes}
use Rattle.survey.proofs.Stands.{state_of, has_layout_by, layout_by, idle_by, profile_awaited, table_awaited, told, Stands, kept, right_opening_is, right_closing_is}

not_so : (b : Bool) → not b ≡ true → b ≡ false
not_so true e = absurd (false≢true e)
not_so false e = refl

-- a pair changes when it has not the wanted state
to_share : (was : Bool) → not (beq was true) ≡ not was
to_share true = refl
to_share false = refl

to_part : (was : Bool) → not (beq was false) ≡ was
to_part true = refl
to_part false = refl

-- a paper that is admitted has the numbers of the survey and of the issue
numbers : (survey n issue m : ℕ) (rest : Bool) → ((eqb survey n && eqb issue m) && rest) ≡ true → (survey ≡ n) × (issue ≡ m)
numbers survey n issue m rest e =
    let p = and_parts (eqb survey n) (eqb issue m) (and_parts (eqb survey n && eqb issue m) rest e).0 in
    (eqb-true survey n p.0, eqb-true issue m p.1)

module _ (n most : ℕ) (d : List Deed) (l : Layout) (s : Stands d l) where
  has_is : has_layout (state_of d l) ≡ is_resolved d
  has_is = has_layout_by (is_resolved d) (is_open d) (eqb (profiles d) 0) l

  open_is : idle (state_of d l) ≡ not (is_open d)
  open_is = idle_by (is_resolved d) (is_open d) (eqb (profiles d) 0) l s.after

  opening_is : awaits_profile (state_of d l) ≡ (is_open d && eqb (profiles d) 0)
  opening_is = profile_awaited (is_resolved d) (is_open d) (eqb (profiles d) 0) l s.after

  closing_is : awaits_table (state_of d l) ≡ (is_open d && not (eqb (profiles d) 0))
  closing_is = table_awaited (is_resolved d) (is_open d) (eqb (profiles d) 0) l s.after

  has : is_resolved d ≡ true → layout_of (state_of d l) ≡ Some l
  has e = layout_by (is_resolved d) (is_open d) (eqb (profiles d) 0) l e

  -- the files of an open issue
  the_profile : is_open d ≡ true → ProfileOf n d (profile_text (told n most d l))
  the_profile e = (
    l.imagers,
    ends_of l.record,
    doubt_of l.record,
    s.latest (s.after e),
    ap (λ o. option_map_or (profile_by (told n most d l)) o []) (has (s.after e)),
  )

  the_table : is_open d ≡ true → TableOf n d (table_text (told n most d l))
  the_table e = (
    l.imagers,
    ends_of l.record,
    doubt_of l.record,
    s.latest (s.after e),
    ap (λ o. option_map_or (table_by (told n most d l)) o []) (has (s.after e)),
  )

  opening_open : (p : Slip ForProfile) → right_opening n d p ≡ true → is_open d ≡ true
  opening_open p e = (and_parts (is_open d) _ (and_parts (eqb p.survey n && eqb p.issue (issues d)) _ e).1).0

  closing_open : (p : Slip ForTable) → right_closing n d p ≡ true → is_open d ≡ true
  closing_open p e = (and_parts (is_open d) _ (and_parts (eqb p.survey n && eqb p.issue (issues d)) _ e).1).0

  pub refused : (x : Event) (w : View) → Step (told n most d l) x w → Refused n most d x
  refused (Enlist span (Ok k)) w st = rw (← open_is) (sym st.0)
  refused (Enlist span (Err e)) w st = rw (← open_is) (sym st.0)
  refused (Share i j (Ok changed)) w st = rw (← open_is) (sym st.0)
  refused (Share i j (Err e)) w st = rw (← open_is) (sym st.0)
  refused (Part i j (Ok changed)) w st = rw (← open_is) (sym st.0)
  refused (Part i j (Err e)) w st = rw (← open_is) (sym st.0)
  refused (Resolve (Ok a)) w st = inl (rw (← open_is) (sym st.0))
  refused (Resolve (Err e)) w (inl q, same) = inl (rw (← open_is) (sym q))
  refused (Resolve (Err e)) w (inr (q, (i, is, clash)), same) =
      inr (not_so (is_open d) (sym open_is ∙ (yes _ q).0), (i, ap Some is, clash))
  refused (Begin (Ok p)) w st = rw (← has_is, ← open_is) (sym st.0)
  refused (Begin (Err e)) w st = rw (← has_is, ← open_is) (sym st.0)
  refused (WriteProfile p at old new (Ok (given, k))) w st =
      (profile_text (told n most d l), (λ e. the_profile (opening_open p e)), rw (← opening_is) (sym st.0))
  refused (WriteProfile p at old new (Err (back, e))) w st =
      (profile_text (told n most d l), (λ e. the_profile (opening_open p e)), rw (← opening_is) (sym st.0))
  refused (WriteTable p at old new (Ok k)) w st =
      (table_text (told n most d l), (λ e. the_table (closing_open p e)), rw (← closing_is) (sym st.0))
  refused (WriteTable p at old new (Err (back, e))) w st =
      (table_text (told n most d l), (λ e. the_table (closing_open p e)), rw (← closing_is) (sym st.0))
  refused (Withdraw (Opens p) (Ok done)) w st = rw (← opening_is) (sym st.0)
  refused (Withdraw (Opens p) (Err (back, e))) w st = rw (← opening_is) (sym st.0)
  refused (Withdraw (Closes p) (Ok done)) w st = rw (← closing_is) (sym st.0)
  refused (Withdraw (Closes p) (Err (back, e))) w st = rw (← closing_is) (sym st.0)
  refused (AskEnds i (Ok a)) w st = rw (← has_is) (sym st.0.0)
  refused (AskEnds i (Err e)) w st = rw (← has_is) (sym st.0.0)
  refused (AskCommon i j (Ok a)) w st = rw (← has_is) (sym st.0.0)
  refused (AskCommon i j (Err e)) w st = rw (← has_is) (sym st.0.0)
  refused (AskDoubt i (Ok a)) w st = rw (← has_is) (sym st.0.0)
  refused (AskDoubt i (Err e)) w st = rw (← has_is) (sym st.0.0)

  -- the closing paper of an accepted profile
  given_closing : (p : Slip ForProfile) (given : Slip ForTable) → admits_opening (told n most d l) p ≡ true → given ≡ slip p.survey p.issue
      → given ≡ slip n (issues d)
  given_closing p given e is =
      let q = numbers p.survey n p.issue (issues d) _ e in
      is ∙ ap (λ x. slip x p.issue) q.0 ∙ ap (λ x. slip n x) q.1

  -- a survey that tells of its baselines is resolved
  resolved_by : has_layout (state_of d l) ≡ true → is_resolved d ≡ true
  resolved_by e = sym has_is ∙ e

  pub answered : (x : Event) (w : View) → Step (told n most d l) x w → Answered n d x
  answered (Enlist span (Ok k)) w st = st.1.0
  answered (Enlist span (Err e)) w st = tt
  answered (Share i j (Ok changed)) w st = st.1.0 ∙ to_share (sharing d i j)
  answered (Share i j (Err e)) w st = tt
  answered (Part i j (Ok changed)) w st = st.1.0 ∙ to_part (sharing d i j)
  answered (Part i j (Err e)) w st = tt
  answered (Resolve (Ok a)) w st =
      let found = st.1.0 in
      (ends_of found.record, doubt_of found.record, subst (λ m. Solved (table_of d) m (ends_of found.record) (doubt_of found.record)) (sym st.1.2) st.1.1, st.1.3)
  answered (Resolve (Err e)) w st = tt
  answered (Begin (Ok p)) w st = st.1.0
  answered (Begin (Err e)) w st = tt
  answered (WriteProfile p at old new (Ok (given, k))) w st = (given_closing p given (yes _ st.0).0 st.1, tt, tt)
  answered (WriteProfile p at old new (Err (back, e))) w st = (tt, st.1, st.2)
  answered (WriteTable p at old new (Ok k)) w st = (tt, tt)
  answered (WriteTable p at old new (Err (back, e))) w st = (st.1, st.2)
  answered (Withdraw p (Ok done)) w st = tt
  answered (Withdraw p (Err (back, e))) w st = st.1
  answered (AskEnds i (Ok a)) w st =
      let is = resolved_by (yes _ (yes _ st.0.0).1).0 in
      (l.imagers, ends_of l.record, doubt_of l.record, s.settled is, kept n most d l (λ k. a ≡ ends_of k.record i) is st.0.1)
  answered (AskEnds i (Err e)) w st = tt
  answered (AskCommon i j (Ok a)) w st =
      let is = resolved_by (yes _ (yes _ (yes _ st.0.0).1).1).0 in
      (l.imagers, ends_of l.record, doubt_of l.record, s.settled is, kept n most d l (λ k. a ≡ together (ends_of k.record i) (ends_of k.record j)) is st.0.1)
  answered (AskCommon i j (Err e)) w st = tt
  answered (AskDoubt i (Ok a)) w st =
      let is = resolved_by (yes _ (yes _ st.0.0).1).0 in
      let told_is = kept n most d l (λ k. a ≡ doubt_of k.record i) is st.0.1 in
      let f = (s.settled is).doubt i (ltb-true i (baselines d) (yes _ st.0.0).0) in
      ((λ e. f.0 (sym told_is ∙ e)), (λ x. told_is ∙ f.1 x))
  answered (AskDoubt i (Err e)) w st = tt

  -- an accepted file
  pub profile_left : (p : Slip ForProfile) (at k : ℕ) (old new : List ℕ) (given : Slip ForTable) (w : View)
      → Step (told n most d l) (WriteProfile p at old new (Ok (given, k))) w
      → (text : List ℕ) × ProfileOf n d text × (k ≡ length text) × (new ≡ splice old at text)
  profile_left p at k old new given w st =
      let is = right_opening_is n d l s _ (yes _ st.0).0 in
      (profile_text (told n most d l), the_profile is.0, st.2, st.3)

  pub table_left : (p : Slip ForTable) (at k : ℕ) (old new : List ℕ) (w : View)
      → Step (told n most d l) (WriteTable p at old new (Ok k)) w
      → ((text : List ℕ) × TableOf n d text × (k ≡ length text) × (new ≡ splice old at text)) × ((is_open d ≡ true) × (profiles d ≡ 1))
  table_left p at k old new w st =
      let is = right_closing_is n d l s _ (yes _ st.0).0 in
      let few = s.once is.0 in
      let some : profiles d ≡ 0 → ⊥ = eqb-false (profiles d) 0 (not_so (eqb (profiles d) 0) is.1) in
      ((table_text (told n most d l), the_table is.0, st.1, st.2), (is.0, omega arith))

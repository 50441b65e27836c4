-- What a history tells of a survey, and that one event more tells of the survey after it.
use Rattle.std.proofs.Common.{◌≡◌, ℕ, ◌+◌, ◌≤◌, Bool, true, false, cond, not, ◌&&◌, eqb, List, ◌∷◌, Some, IsSomeAnd, Ok, Err, sym, refl, ap, ◌∙◌, subst, arith}
use mathlib.Core.Bool.{beq}
use Rattle.std.proofs.lemmas.Bool.{false≢true, and_parts, eqb-true, ne_eqb}
use Rattle.evidence.specs.Table.{Table, Sound}
use Rattle.evidence.proofs.Puts.{put_same}
use Rattle.survey.specs.declared.state.Layout.{Layout}
use Rattle.survey.specs.declared.state.State.{State}
use Rattle.survey.specs.declared.state.State.TheVariants.{Unresolved, Resolved, Begun, Profiled}
use Rattle.survey.specs.Views.{View, with_state, layout_of, has_layout, Keeps, idle, awaits_profile, awaits_table}
use Rattle.survey.specs.Resolves.{Solves}
use Rattle.survey.specs.Issues.{staged, with_issue, at_stage}
use Rattle.survey.specs.Marks.{with_pair, with_mark, changes}
use Rattle.survey.specs.History.{Event, Enlist, Share, Part, Resolve, Begin, WriteProfile, WriteTable, Withdraw, AskEnds, AskCommon, AskDoubt, Deed, marked, tabled, withdrawn, noted, enlisted_spans, sharing, table_of, is_resolved, before_resolve, issues, is_open, profiles}
use Rattle.survey.specs.Runs.{Step}
use Rattle.survey.proofs.Yes.{yes}

-- ---- How far a survey has come, by what is true of its history

-- Resolved, an issue going on, no profile written.
abbrev pub state_by : Bool → Bool → Bool → Layout → State
state_by settled going none l = cond settled (cond going (cond none (Begun l) (Profiled l)) (Resolved l)) Unresolved

abbrev pub state_of : List Deed → Layout → State
state_of d l = state_by (is_resolved d) (is_open d) (eqb (profiles d) 0) l

pub has_layout_by : (settled going none : Bool) (l : Layout) → has_layout (state_by settled going none l) ≡ settled
has_layout_by false going none l = refl
has_layout_by true false none l = refl
has_layout_by true true true l = refl
has_layout_by true true false l = refl

-- the layout of a resolved survey
pub layout_by : (settled going none : Bool) (l : Layout) → settled ≡ true → layout_of (state_by settled going none l) ≡ Some l
layout_by false going none l e = absurd (false≢true e)
layout_by true false none l e = refl
layout_by true true true l e = refl
layout_by true true false l e = refl

pub staged_by : (stage : Layout → State) (settled going none : Bool) (l : Layout) → staged stage (state_by settled going none l) ≡ cond settled (stage l) Unresolved
staged_by stage false going none l = refl
staged_by stage true false none l = refl
staged_by stage true true true l = refl
staged_by stage true true false l = refl

-- an issue goes on only in a resolved survey
pub idle_by : (settled going none : Bool) (l : Layout) → (going ≡ true → settled ≡ true) → idle (state_by settled going none l) ≡ not going
idle_by false false none l e = refl
idle_by false true none l e = absurd (false≢true (e refl))
idle_by true false none l e = refl
idle_by true true true l e = refl
idle_by true true false l e = refl

pub profile_awaited : (settled going none : Bool) (l : Layout) → (going ≡ true → settled ≡ true)
    → awaits_profile (state_by settled going none l) ≡ (going && none)
profile_awaited false false none l e = refl
profile_awaited false true none l e = absurd (false≢true (e refl))
profile_awaited true false none l e = refl
profile_awaited true true true l e = refl
profile_awaited true true false l e = refl

pub table_awaited : (settled going none : Bool) (l : Layout) → (going ≡ true → settled ≡ true)
    → awaits_table (state_by settled going none l) ≡ (going && not none)
table_awaited false false none l e = refl
table_awaited false true none l e = absurd (false≢true (e refl))
table_awaited true false none l e = refl
table_awaited true true true l e = refl
table_awaited true true false l e = refl

-- a survey that is resolved again has no issue
settled_state : (going none : Bool) (l : Layout) → (going ≡ true → ⊥) → Resolved l ≡ state_by true going none l
settled_state true none l e = absurd (e refl)
settled_state false none l e = refl

-- ---- What a history tells of a survey

-- The view with this layout, if the history is resolved.
abbrev pub told : ℕ → ℕ → List Deed → Layout → View
told n most d l = record {
  number = n;
  table = table_of d;
  most = most;
  spans = enlisted_spans d;
  state = state_of d l;
  begun = issues d;
}

-- While the history is resolved, the layout is that of its table and of the latest resolve; an issue is open only then, and
-- with one profile at most.
pub record Stands (d : List Deed) (l : Layout) : Type 0 where
  pub settled : is_resolved d ≡ true → Solves (table_of d) l
  pub latest : is_resolved d ≡ true → Solves (table_of (before_resolve d)) l
  pub after : is_open d ≡ true → is_resolved d ≡ true
  pub once : is_open d ≡ true → profiles d ≤ 1

-- A view is what a history tells.
pub record Tells (n most : ℕ) (d : List Deed) (v : View) : Type 0 where
  pub layout : Layout
  pub is : v ≡ told n most d layout
  pub stands : Stands d layout

-- what is so of the layout, and what the survey keeps
module _ (n most : ℕ) (d : List Deed) (l : Layout) (P : Layout → Type 0) (e : is_resolved d ≡ true) where
  pub kept : Keeps (told n most d l) P → P l
  kept k = subst (λ o. IsSomeAnd o P) (layout_by (is_resolved d) (is_open d) (eqb (profiles d) 0) l e) k

  pub keeps : P l → Keeps (told n most d l) P
  keeps p = subst (λ o. IsSomeAnd o P) (sym (layout_by (is_resolved d) (is_open d) (eqb (profiles d) 0) l e)) p

-- the paper that a profile is written on
pub right_opening_is : (n : ℕ) (d : List Deed) (l : Layout) → Stands d l → (P : Bool) → (P && awaits_profile (state_of d l)) ≡ true
    → (is_open d ≡ true) × (eqb (profiles d) 0 ≡ true)
right_opening_is n d l s P e =
    and_parts (is_open d) _ (sym (profile_awaited (is_resolved d) (is_open d) (eqb (profiles d) 0) l s.after) ∙ (and_parts P _ e).1)

-- and that a table is written on
pub right_closing_is : (n : ℕ) (d : List Deed) (l : Layout) → Stands d l → (P : Bool) → (P && awaits_table (state_of d l)) ≡ true
    → (is_open d ≡ true) × (not (eqb (profiles d) 0) ≡ true)
right_closing_is n d l s P e =
    and_parts (is_open d) _ (sym (table_awaited (is_resolved d) (is_open d) (eqb (profiles d) 0) l s.after) ∙ (and_parts P _ e).1)

-- a pair that has the wanted state already
had : (was on : Bool) → false ≡ not (beq was on) → was ≡ on
had true true e = refl
had true false e = absurd (false≢true e)
had false true e = absurd (false≢true e)
had false false e = refl

same_table : (t : Table) (i j : ℕ) (on : Bool) → Sound t → t.shares i j ≡ on → t ≡ with_pair t i j on
same_table t i j on s was = λ x. record { count = t.count; shares = λ a b. put_same t i j on s was a b x }

-- a mark that changes nothing leaves a resolved survey resolved
was : (changed settled : Bool) → cond changed false settled ≡ true → settled ≡ true
was true settled e = absurd (false≢true e)
was false settled e = e

not_open : (b : Bool) → not b ≡ true → b ≡ true → ⊥
not_open true e h = false≢true e
not_open false e h = false≢true h

module _ (n most : ℕ) where
  module _ (d : List Deed) (l : Layout) (sound : Sound (table_of d)) (s : Stands d l) where
    -- a call that an open issue does not admit
    shut : {A : Type 0} → idle (state_of d l) ≡ true → is_open d ≡ true → A
    shut e h = absurd (not_open (is_open d) (sym (idle_by (is_resolved d) (is_open d) (eqb (profiles d) 0) l s.after) ∙ e) h)

    still : (i j : ℕ) (on changed : Bool) → changed ≡ changes (table_of d) i j on
        → cond changed false (is_resolved d) ≡ true → Solves (with_pair (table_of d) i j on) l
    still i j on true c e = absurd (false≢true e)
    still i j on false c e = subst (λ t. Solves t l) (same_table (table_of d) i j on sound (had (sharing d i j) on c)) (s.settled e)

    -- the state after a mark
    marked_state : (changed settled going none : Bool) → cond changed Unresolved (state_by settled going none l) ≡ state_by (cond changed false settled) going none l
    marked_state true settled going none = refl
    marked_state false settled going none = refl

    mark_next : (i j : ℕ) (on changed : Bool) (w : View) → idle (state_of d l) ≡ true → changed ≡ changes (table_of d) i j on
        → w ≡ with_mark (told n most d l) i j on → Tells n most (marked i j on changed ∷ d) w
    mark_next i j on changed w idle c p = record {
      layout = l;
      is = p
          ∙ ap (with_state (with_mark (told n most d l) i j on)) (
          marked_state (changes (table_of d) i j on) (is_resolved d) (is_open d) (eqb (profiles d) 0)
          ∙ sym (ap (λ b. state_by (cond b false (is_resolved d)) (is_open d) (eqb (profiles d) 0) l) c)
          );
      stands = record {
        settled = still i j on changed c;
        latest = λ e. s.latest (was changed (is_resolved d) e);
        after = shut idle;
        once = s.once;
      };
    }

    same : (w : View) → w ≡ told n most d l → Tells n most d w
    same w p = record { layout = l; is = p; stands = s }

    -- the layout at another stage of the issue
    stage_is : (number : ℕ) (stage : Layout → State) (v : View) (w : View) → w ≡ with_issue (told n most d l) number stage
        → v ≡ with_state (with_issue (told n most d l) number stage) (cond (is_resolved d) (stage l) Unresolved) → w ≡ v
    stage_is number stage v w p q =
        p ∙ ap (with_state (with_issue (told n most d l) number stage)) (staged_by stage (is_resolved d) (is_open d) (eqb (profiles d) 0) l) ∙ sym q

    -- the issue is over
    over : (x : Deed) (w : View) → w ≡ at_stage (told n most d l) Resolved → told n most (x ∷ d) l ≡ with_state (at_stage (told n most d l) Resolved) (cond (is_resolved d) (Resolved l) Unresolved)
        → (is_resolved (x ∷ d) ≡ true → Solves (table_of (x ∷ d)) l) → (is_resolved (x ∷ d) ≡ true → Solves (table_of (before_resolve (x ∷ d))) l)
        → is_open (x ∷ d) ≡ false → Tells n most (x ∷ d) w
    over x w p q settled latest closed = record {
      layout = l;
      is = stage_is (issues d) Resolved _ w p q;
      stands = record { settled = settled; latest = latest; after = λ e. absurd (false≢true (sym closed ∙ e)); once = λ e. absurd (false≢true (sym closed ∙ e)) };
    }

    pub next : (x : Event) (w : View) → Step (told n most d l) x w → Tells n most (noted x d) w
    next (Enlist span (Ok k)) w st = record {
      layout = l;
      is = st.1.1;
      stands = record { settled = λ e. absurd (false≢true e); latest = λ e. absurd (false≢true e); after = shut (yes _ st.0).0; once = s.once };
    }
    next (Enlist span (Err e)) w st = same w st.1
    next (Share i j (Ok changed)) w st = mark_next i j true changed w (yes _ st.0).0 st.1.0 st.1.1
    next (Share i j (Err e)) w st = same w st.1
    next (Part i j (Ok changed)) w st = mark_next i j false changed w (yes _ st.0).0 st.1.0 st.1.1
    next (Part i j (Err e)) w st = same w st.1
    next (Resolve (Ok a)) w st = record {
      layout = st.1.0;
      is = st.1.4 ∙ ap (with_state (told n most d l)) (settled_state (is_open d) (eqb (profiles d) 0) st.1.0 (shut (yes _ st.0).0));
      stands = record { settled = λ e. st.1.1; latest = λ e. st.1.1; after = λ e. refl; once = s.once };
    }
    next (Resolve (Err e)) w st = same w st.1
    next (Begin (Ok p)) w st = record {
      layout = l;
      is = stage_is (issues d + 1) Begun _ w st.1.1 refl;
      stands = record {
        settled = s.settled;
        latest = s.latest;
        after = λ e. sym (has_layout_by (is_resolved d) (is_open d) (eqb (profiles d) 0) l) ∙ (yes _ (yes _ st.0).1).0;
        once = λ e. omega arith;
      };
    }
    next (Begin (Err e)) w st = same w st.1
    next (WriteProfile p at old new (Ok (given, k))) w st =
        let is = right_opening_is n d l s _ (yes _ st.0).0 in
        let none : profiles d ≡ 0 = eqb-true (profiles d) 0 is.1 in
        let some = ne_eqb (profiles d + 1) 0 (omega arith) in
        record {
          layout = l;
          is = stage_is (issues d) Profiled _ w st.4 (rw (is.0, some));
          stands = record { settled = s.settled; latest = s.latest; after = s.after; once = λ e. omega arith };
        }
    next (WriteProfile p at old new (Err (back, e))) w st = same w st.3
    next (WriteTable p at old new (Ok k)) w st = over tabled w st.3 refl s.settled s.latest refl
    next (WriteTable p at old new (Err (back, e))) w st = same w st.3
    next (Withdraw p (Ok done)) w st = over withdrawn w st.1 refl s.settled s.latest refl
    next (Withdraw p (Err (back, e))) w st = same w st.2
    next (AskEnds i r) w st = same w st.1
    next (AskCommon i j r) w st = same w st.1
    next (AskDoubt i r) w st = same w st.1

-- Every run keeps the law.
use Rattle.std.proofs.Common.{◌≡◌, ℕ, true, not, ◌↔◌, eqb, List, [], ◌∷◌, ◌++◌, sym, ap, ◌∙◌, subst, arith}
use Rattle.std.proofs.lemmas.Bool.{false≢true}
use Rattle.evidence.specs.declared.evidence.Evidence.{Ghosts as EvidenceGhosts}
use Rattle.evidence.specs.declared.ledger.Ledger.{Ghosts as LedgerGhosts}
use Rattle.evidence.specs.Table.{Sound}
use Rattle.theory.specs.Record.{doubt_of}
use Rattle.theory.specs.Clusters.{Doubtful}
use Rattle.survey.specs.declared.state.Layout.{Layout}
use Rattle.survey.specs.declared.survey.Survey.{Survey}
use Rattle.survey.specs.Views.{View, view, Keeps, Fresh}
use Rattle.survey.specs.Resolves.{Solves}
use Rattle.survey.specs.History.{Event, Resolve, WriteProfile, WriteTable, accepted, table_of, is_resolved, is_open, profiles}
use Rattle.survey.specs.Runs.{Step, Run, opened, step}
use Rattle.survey.specs.Law.{Lawful, Within}
use Rattle.survey.proofs.Stands.{told, Tells, Stands, next, idle_by, keeps}
use Rattle.survey.proofs.Refused.{refused, answered, profile_left, table_left}
use Rattle.survey.proofs.Clashes.{clash_exactly}

-- What is known of an event: what stood before it, as the history tells, and its step.
pub record At (n most : ℕ) (older : List Event) (x : Event) : Type 0 where
  pub layout : Layout
  pub after : View
  pub sound : Sound (table_of (accepted older))
  pub stands : Stands (accepted older) layout
  pub took : Step (told n most (accepted older) layout) x after

-- Every event so far is known.
abbrev Past : ℕ → ℕ → List Event → Type 0
Past n most [] = Unit {0}
Past n most (x ∷ h) = At n most h x × Past n most h

find : (n most : ℕ) (newer older : List Event) (x : Event) → Past n most (newer ++ (x ∷ older)) → At n most older x
find n most [] older x p = p.0
find n most (y ∷ newer) older x p = find n most newer older x p.1

-- of no baselines
none : Layout
none = record { «record» = record { entries = [] }; imagers = 0; few = omega arith; chips = λ i. (omega arith, omega arith) }

module _ {L : Type 0} (e : EvidenceGhosts L) (g : LedgerGhosts L) (sound : (x : L) → Sound (e.meaning x)) (n most : ℕ) (start : Survey L g e) (fresh : Fresh n most (view e g start)) where
  first : Tells n most [] (view e g start)
  first = record {
    layout = none;
    is = λ x. record {
      number = fresh.numbered x;
      table = record {
        count = fresh.baselines x;
        shares = λ a b. (sound start.ledger).within a b (omega (arith, fresh.baselines)) x;
      };
      most = fresh.room x;
      spans = fresh.spans x;
      state = fresh.unresolved x;
      begun = fresh.begun x;
    };
    stands = record { settled = λ q. absurd (false≢true q); latest = λ q. absurd (false≢true q); after = λ q. absurd (false≢true q); once = λ q. absurd (false≢true q) };
  }

  -- one event more
  known : (s t : Survey L g e) (h : List Event) (x : Event) → Tells n most (accepted h) (view e g s) → Step (view e g s) x (view e g t) → At n most h x
  known s t h x k st = record {
    layout = k.layout;
    after = view e g t;
    sound = subst (λ (v : View). Sound v.table) k.is (sound s.ledger);
    stands = k.stands;
    took = subst (λ v. Step v x (view e g t)) k.is st;
  }

  past : {h : List Event} {t : Survey L g e} → Run e g start h t → Tells n most (accepted h) (view e g t) × Past n most h
  unfolding known
  past opened = (first, tt)
  past (step {h} {s} t x run st) =
      let k = past run in
      let a = known s t h x k.0 st in
      (next n most (accepted h) a.layout a.sound a.stands x a.after a.took, (a, k.1))

  pub lawful : Lawful e g n most start
  lawful h t run =
      let k = past run in
      let at : (x : Event) (older : List Event) → Within h x older → At n most older x =
      λ x older w. find n most w.0 older x (subst (Past n most) w.1 k.1) in
      let d = accepted h in
      let tells : (P : Layout → Type 0) → is_resolved d ≡ true → P k.0.layout → Keeps (view e g t) P =
      λ P q p. subst (λ (v : View). Keeps v P) (sym k.0.is) (keeps n most d k.0.layout P q p) in
      record {
        refused = λ x older w. let a = at x older w in refused n most (accepted older) a.layout a.stands x a.after a.took;
        answered = λ x older w. let a = at x older w in answered n most (accepted older) a.layout a.stands x a.after a.took;
        shared = λ i j. ap (λ (v : View). v.table.shares i j) k.0.is;
        clash = λ r older w closed.
            let a = at (Resolve r) older w in
            let d = accepted older in
            clash_exactly (told n most d a.layout) a.after r a.sound
            (idle_by (is_resolved d) (is_open d) (eqb (profiles d) 0) a.layout a.stands.after ∙ ap not closed) a.took;
        layout = λ q. tells (Solves (table_of d)) q (k.0.stands.settled q);
        doubt = λ q i b. tells (λ l. (doubt_of l.record i ≡ true) ↔ Doubtful (table_of d) i) q ((k.0.stands.settled q).doubt i b);
        order = λ p at' m old new older w.
            let a = at (WriteTable p at' old new _) older w in
            (table_left n most (accepted older) a.layout a.stands p at' m old new a.after a.took).1;
        profiles_written = λ p at' m old new given older w.
            let a = at (WriteProfile p at' old new _) older w in
            profile_left n most (accepted older) a.layout a.stands p at' m old new given a.after a.took;
        tables_written = λ p at' m old new older w.
            let a = at (WriteTable p at' old new _) older w in
            (table_left n most (accepted older) a.layout a.stands p at' m old new a.after a.took).0;
      }

-- both clauses of `open`, from the first
pub opens : {L : Type 0} (e : EvidenceGhosts L) (g : LedgerGhosts L) → ((x : L) → Sound (e.meaning x)) → (n most : ℕ) (s : Survey L g e) → Fresh n most (view e g s)
    → record { fresh : Fresh n most (view e g s); lawful : Lawful e g n most s }
opens e g sound n most s fresh = record { fresh = fresh; lawful = lawful e g sound n most s fresh }

-- The issue of the two files, call by call, by the law.
use Rattle.std.proofs.Common.{◌≡◌, ℕ, ◌≤◌, true, List, [], ◌∷◌, length, Result, Ok, Err, IsOk, refl, ap, ◌∙◌, subst, zero-add, arith}
use Rattle.std.proofs.lemmas.Bool.{eq-eqb}
use Rattle.evidence.specs.declared.evidence.Evidence.{Ghosts as EvidenceGhosts}
use Rattle.evidence.specs.declared.ledger.Ledger.{Ghosts as LedgerGhosts}
use Rattle.evidence.specs.declared.refusal.Refusal.{Refusal}
use Rattle.evidence.specs.declared.refusal.Refusal.TheVariants.{WrongPaper}
use Rattle.evidence.specs.Refusals.{first_no}
use Rattle.files.specs.Writing.{splice}
use Rattle.survey.specs.declared.slip.Slip.{Slip}
use Rattle.survey.specs.declared.slip.ForProfile.{ForProfile}
use Rattle.survey.specs.declared.slip.ForTable.{ForTable}
use Rattle.survey.specs.declared.papers.Paper.{Paper}
use Rattle.survey.specs.declared.survey.Survey.{Survey}
use Rattle.survey.specs.Slips.{slip}
use Rattle.survey.specs.History.{Begin, WriteProfile, WriteTable, Withdraw, Deed, resolved, begun, profiled, tabled, withdrawn}
use Rattle.survey.specs.Runs.{Leads}
use Rattle.survey.specs.Refusing.{right_opening, right_closing}
use Rattle.worked.specs.After.{After}
use Rattle.worked.specs.Deeds.{shared}
use Rattle.worked.specs.Files.{profile_file, table_file, Issued}
use Rattle.worked.specs.Issue.{Rightful, Over}
use Rattle.worked.proofs.Calls.{next, profile_left, table_left}
use Rattle.worked.proofs.Bytes.{the_profile, the_table}
use Rattle.worked.proofs.Rooms.{fits, lacks, none_written, one_written, both_written}

-- What was done when the issue is begun, and when its profile is written.
abbrev open_deeds : List Deed
open_deeds = begun ∷ (resolved ∷ shared)

abbrev profile_deeds : List Deed
profile_deeds = profiled ∷ open_deeds

-- the papers of the first issue are right
opens : (n : ℕ) (p : Slip ForProfile) → p ≡ slip n 1 → right_opening n open_deeds p ≡ true
opens n p is = ap (right_opening n open_deeds) is ∙ (let e = eq-eqb n n refl in rw e)

closes : (n : ℕ) (p : Slip ForTable) → p ≡ slip n 1 → right_closing n profile_deeds p ≡ true
closes n p is = ap (right_closing n profile_deeds) is ∙ (let e = eq-eqb n n refl in rw e)

module _ {L : Type 0} (e : EvidenceGhosts L) (g : LedgerGhosts L) (s t : Survey L g e) where
  -- a right paper is not handed back
  pub kept : (p : Paper) (r : Result (Unit {0}) (Paper × Refusal)) → Rightful e g s p → Leads e g s (Withdraw p r) t → IsOk r
  kept p (Ok done) is goes = refl
  kept p (Err (back, refusal)) (n, d, a, is_right) goes =
      let q = (next e g n d s t a (Withdraw p (Err (back, refusal))) goes).refused ∙ ap (λ b. first_no ((b, WrongPaper) ∷ [])) is_right in
      let z : ◌≡◌ {A = ℕ} 0 1 = cc in
      absurd (omega arith)

  module _ (n : ℕ) where
    -- after a withdrawal no issue is open
    pub withdrew : (d : List Deed) (p : Paper) (done : Unit {0}) → After e g n d s → Leads e g s (Withdraw p (Ok done)) t → Over e g n t
    withdrew d p done a goes = (withdrawn ∷ d, (next e g n d s t a (Withdraw p (Ok done)) goes).after, refl)

    -- the issue is begun
    pub began : (p : Slip ForProfile) → After e g n (resolved ∷ shared) s → Leads e g s (Begin (Ok p)) t → (p ≡ slip n 1) × After e g n open_deeds t
    began p a goes = let k = next e g n _ s t a (Begin (Ok p)) goes in (k.answered, k.after)

    pub not_begun : (refusal : Refusal) → After e g n (resolved ∷ shared) s → Leads e g s (Begin (Err refusal)) t → ⊥
    not_begun refusal a goes =
        let q = (next e g n _ s t a (Begin (Err refusal)) goes).refused in
        let z : ◌≡◌ {A = ℕ} 0 1 = cc in
        omega arith

    -- What an accepted profile gave and left.
    pub record Left (given : Slip ForTable) (k : ℕ) (old mid : List ℕ) : Type 0 where
      pub paper : given ≡ slip n 1
      pub after : After e g n profile_deeds t
      pub long : k ≡ length (profile_file n)
      pub room : length (profile_file n) ≤ length old
      pub holds : mid ≡ splice old 0 (profile_file n)

    module _ (p : Slip ForProfile) (old mid : List ℕ) (b : (p ≡ slip n 1) × After e g n open_deeds s) where
      pub profile_written : (given : Slip ForTable) (k : ℕ) → Leads e g s (WriteProfile p 0 old mid (Ok (given, k))) t → Left given k old mid
      profile_written given k goes =
          let x = next e g n _ s t b.1 (WriteProfile p 0 old mid (Ok (given, k))) goes in
          let asked = x.refused in
          let w = profile_left e g n _ s t b.1 p 0 k old mid given goes in
          let file = the_profile n w.0 w.1 in
          let r = opens n p b.0 in
          let room = fits _ asked.0 (profile_file n) old 0 r (the_profile n asked.0 (asked.1 r)) asked.2 in
          record {
            paper = x.answered.0;
            after = x.after;
            long = w.2 ∙ ap length file;
            room = subst (λ m. m ≤ length old) (zero-add (length (profile_file n))) room;
            holds = w.3 ∙ ap (splice old 0) file;
          }

      pub profile_lacks : (back : Slip ForProfile) (refusal : Refusal) → Leads e g s (WriteProfile p 0 old mid (Err (back, refusal))) t
          → After e g n open_deeds t × (right_opening n open_deeds back ≡ true) × Issued n old mid (Err refusal)
      profile_lacks back refusal goes =
          let x = next e g n _ s t b.1 (WriteProfile p 0 old mid (Err (back, refusal))) goes in
          let asked = x.refused in
          let r = opens n p b.0 in
          let no_room = lacks _ asked.0 (profile_file n) old 0 r (the_profile n asked.0 (asked.1 r)) refusal asked.2 in (
            x.after,
            opens n back (x.answered.1 ∙ b.0),
            none_written n old mid refusal no_room.0 (omega (arith, no_room.1)) x.answered.2,
          )

-- the table, right after the profile
module _ {L : Type 0} (e : EvidenceGhosts L) (g : LedgerGhosts L) (r s t : Survey L g e) (n : ℕ) (p : Slip ForTable) (k : ℕ) (old mid new : List ℕ) (l : Left e g r s n p k old mid) where
  pub table_written : (m : ℕ) → Leads e g s (WriteTable p k mid new (Ok m)) t → Issued n old new (Ok (record { profile = k; table = m })) × Over e g n t
  table_written m goes =
      let x = next e g n _ s t l.after (WriteTable p k mid new (Ok m)) goes in
      let asked = x.refused in
      let w = table_left e g n _ s t l.after p k m mid new goes in
      let file = the_table n w.0 w.1 in
      let c = closes n p l.paper in
      let more = fits _ asked.0 (table_file n) mid k c (the_table n asked.0 (asked.1 c)) asked.2 in (
        both_written n old new mid l.holds l.room k m l.long (w.2 ∙ ap length file) more (w.3 ∙ ap (splice mid k) file),
        (tabled ∷ profile_deeds, x.after, refl),
      )

  pub table_lacks : (back : Slip ForTable) (refusal : Refusal) → Leads e g s (WriteTable p k mid new (Err (back, refusal))) t
      → After e g n profile_deeds t × (right_closing n profile_deeds back ≡ true) × Issued n old new (Err refusal)
  table_lacks back refusal goes =
      let x = next e g n _ s t l.after (WriteTable p k mid new (Err (back, refusal))) goes in
      let asked = x.refused in
      let c = closes n p l.paper in
      let no_room = lacks _ asked.0 (table_file n) mid k c (the_table n asked.0 (asked.1 c)) refusal asked.2 in (
        x.after,
        closes n back (x.answered.0 ∙ l.paper),
        one_written n old new mid l.holds l.room refusal no_room.0 (omega (arith, no_room.1, l.long)) x.answered.1,
      )

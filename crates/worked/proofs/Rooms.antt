-- Whether a buffer has room for the two files, and what is left in it.
use Rattle.std.proofs.Common.{◌≡◌, ℕ, ◌+◌, ◌<◌, ◌≤◌, Bool, true, false, leb, List, [], ◌∷◌, ◌++◌, length, drop, Some, None, Ok, Err, sym, refl, ap, ◌∙◌, zero-add, arith, length-append, length-drop}
use Rattle.std.proofs.lemmas.Bool.{leb-true, leb-false}
use Rattle.evidence.specs.declared.refusal.Refusal.{Refusal}
use Rattle.evidence.specs.declared.refusal.Refusal.TheVariants.{NoRoom}
use Rattle.evidence.specs.Refusals.{first_no}
use Rattle.files.specs.Writing.{splice}
use Rattle.files.specs.Splices.{puts_then}
use Rattle.survey.specs.Refusing.{asked_of_file}
use Rattle.worked.specs.Files.{profile_file, table_file, begun_with, Issued}

-- ---- what a call that writes a file is asked, on a right paper

fits_by : (b : Bool) (k : ℕ) → None ≡ first_no ((true, NoRoom 0) ∷ (b, NoRoom k) ∷ []) → b ≡ true
fits_by true k q = refl
fits_by false k q = let z : ◌≡◌ {A = ℕ} 0 1 = cc in absurd (omega arith)

lacks_by : (b : Bool) (k : ℕ) (e : Refusal) → Some e ≡ first_no ((true, NoRoom 0) ∷ (b, NoRoom k) ∷ []) → (b ≡ false) × (e ≡ NoRoom k)
lacks_by true k e q = let z : ◌≡◌ {A = ℕ} 0 1 = cc in absurd (omega arith)
lacks_by false k e q = (refl, cc)

module _ (right : Bool) (text file old : List ℕ) (at : ℕ) (is_right : right ≡ true) (is : text ≡ file) where
  asked : first_no (asked_of_file right text old at) ≡ first_no (asked_of_file true file old at)
  asked = ap (λ b. first_no (asked_of_file b text old at)) is_right ∙ ap (λ x. first_no (asked_of_file true x old at)) is

  pub fits : None ≡ first_no (asked_of_file right text old at) → at + length file ≤ length old
  fits q = leb-true _ _ (fits_by (leb (at + length file) (length old)) (length file) (q ∙ asked))

  pub lacks : (e : Refusal) → Some e ≡ first_no (asked_of_file right text old at) → (e ≡ NoRoom (length file)) × (length old < at + length file)
  lacks e q =
      let x = lacks_by (leb (at + length file) (length old)) (length file) e (q ∙ asked) in
      (x.1, leb-false _ _ x.0)

-- ---- what is left in the buffer

at_start : (text old : List ℕ) → splice old 0 text ≡ begun_with text old
at_start text old = ap (λ k. text ++ drop k old) (zero-add (length text))

module _ (n : ℕ) (old new : List ℕ) where
  -- no room for the profile
  pub none_written : (e : Refusal) → e ≡ NoRoom (length (profile_file n)) → length old < length (profile_file n) → new ≡ old → Issued n old new (Err e)
  none_written e is short same =
      record { both = λ h. absurd (omega arith); one = λ h k. absurd (omega arith); neither = λ h. (ap Err is, same) }

  module _ (mid : List ℕ) (left : mid ≡ splice old 0 (profile_file n)) (room : length (profile_file n) ≤ length old) where
    as_long : length mid ≡ length old
    as_long = ap length (left ∙ at_start (profile_file n) old) ∙ simp (length-append, length-drop) (omega arith)

    -- no room for the table after it
    pub one_written : (e : Refusal) → e ≡ NoRoom (length (table_file n)) → length mid < length (profile_file n) + length (table_file n) → new ≡ mid
        → Issued n old new (Err e)
    one_written e is short same = record {
      both = λ h. absurd (omega (arith, as_long));
      one = λ h k. (ap Err is, same ∙ left ∙ at_start (profile_file n) old);
      neither = λ h. absurd (omega arith);
    }

    -- room for both
    pub both_written : (p t : ℕ) → p ≡ length (profile_file n) → t ≡ length (table_file n) → p + length (table_file n) ≤ length mid
        → new ≡ splice mid p (table_file n) → Issued n old new (Ok (record { profile = p; table = t }))
    both_written p t is-p is-t more holds = record {
      both = λ h. (
        (λ i. Ok (record { profile = is-p i; table = is-t i })),
        (puts_then {s = profile_file n} {t = table_file n} (record { ends = is-p ∙ sym (zero-add _); holds = left }) (record { ends = refl; holds = holds }) (omega (arith, as_long))).holds
            ∙ at_start (profile_file n ++ table_file n) old,
      );
      one = λ h k. absurd (omega (arith, as_long));
      neither = λ h. absurd (omega arith);
    }

-- The lines of a sheet, cut at their ends.
use Rattle.std.proofs.Common.{◌≡◌, ℕ, zero, suc, ◌+◌, ◌-◌, ◌<◌, min, List, [], ◌∷◌, length, take, drop, ⊎_elim, sym, refl, ◌∙◌, arith}
use Rattle.std.proofs.lemmas.Bool.{cases_eq, ne_eqb}
use Rattle.std.proofs.lemmas.List.{get_or-drop, length-drop, take_rest}
use Rattle.files.specs.Reading.{Lacks, FirstAt, put_before}
use Rattle.lines.specs.Sheet.{LineEnd, lines_of}

-- the line that begins at a place, where a byte 10 follows and where none does; one that begins past the bytes is empty
pub end_met : (bytes : List ℕ) (at from i : ℕ) → from ≡ min at (length bytes) → FirstAt 10 (take (length bytes - from) (drop from bytes)) i
    → LineEnd bytes at (at + i + 1)
end_met bytes at from i is met =
    let first = rw (take_rest bytes from) at met in
    let within : from + i < length bytes = omega (arith, first.within, length-drop from bytes) in
    let same : from ≡ at = omega arith in
    record {
      within = omega arith;
      further = λ _. omega arith;
      inside = λ k l h q.
          let there : from + (k - from) ≡ k = omega arith in
          first.first (k - from) (omega arith) (get_or-drop from bytes (k - from) 0 ∙ rw there q);
      ended = λ h.
          let there : at + i + 1 - 1 ≡ from + i = omega arith in rw there (sym (get_or-drop from bytes i 0) ∙ first.here);
    }

pub end_missed : (bytes : List ℕ) (at from : ℕ) → from ≡ min at (length bytes) → Lacks 10 (take (length bytes - from) (drop from bytes))
    → LineEnd bytes at (length bytes)
end_missed bytes at from is missed =
    let lacks = rw (take_rest bytes from) at missed in
    record {
      within = omega arith;
      further = λ l. l;
      inside = λ k l h q.
          let same : from ≡ at = omega arith in
          let there : from + (k - from) ≡ k = omega arith in
          lacks (k - from) (omega (arith, length-drop from bytes)) (get_or-drop from bytes (k - from) 0 ∙ rw there q);
      ended = λ h. absurd (omega arith);
    }

-- a line that does not end at its first byte ends where the bytes after that byte say
rest_end : (b : ℕ) (bytes : List ℕ) (n : ℕ) → LineEnd (b ∷ bytes) 0 (suc (suc n)) → LineEnd bytes 0 (suc n)
rest_end b bytes n e = record {
  within = omega (arith, e.within);
  further = λ _. omega arith;
  inside = λ k l h q. e.inside (suc k) (omega arith) (omega arith) q;
  ended = λ h.
      let here : suc n - 1 ≡ n = omega arith in
      let there : suc (suc n) - 1 ≡ suc n = omega arith in rw here (rw there at (e.ended (omega arith)));
}

-- what lies before the end of the first line is that line
pub lines_at : (bytes : List ℕ) (n : ℕ) → 0 < length bytes → LineEnd bytes 0 n → lines_of bytes ≡ take n bytes ∷ lines_of (drop n bytes)
unfolding lines_of put_before
lines_at [] n some e = absurd (omega (arith, some))
lines_at (b ∷ bytes) zero some e = absurd (omega (arith, e.further some))
lines_at (b ∷ []) (suc zero) some e = ⊎_elim (λ is. rw is refl) (λ ne. rw (ne_eqb b 10 ne) refl) (cases_eq b 10)
lines_at (b ∷ c ∷ bytes) (suc zero) some e = rw (e.ended (omega arith)) refl
lines_at (b ∷ bytes) (suc (suc n)) some e =
    let more = lines_at bytes (suc n) (omega (arith, e.within)) (rest_end b bytes n e) in
    rw (ne_eqb b 10 (e.inside 0 (omega arith) (omega arith)), more) refl

-- no bytes have no lines
pub lines_none : (bytes : List ℕ) → length bytes ≡ 0 → lines_of bytes ≡ []
unfolding lines_of
lines_none [] none = refl
lines_none (b ∷ bytes) none = absurd (omega (arith, none))

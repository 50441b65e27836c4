-- What the calls of a grid leave of its rows.
use Rattle.std.proofs.Common.{◌≡◌, ℕ, zero, suc, ◌+◌, ◌<◌, Bool, false, cond, ◌&&◌, eqb, ltb, List, length, get_or, set, replicate, sym, refl, ap, ◌∙◌, ⊎_elim, arith, length-set}
use Rattle.std.proofs.lemmas.Bool.Decides.{nat_tests}
use Rattle.std.proofs.lemmas.List.{get_or-set_same, get_or-set_other}
use Rattle.std.proofs.lemmas.Bool.{cases_eq, lt-ltb}
use Rattle.bitset.specs.declared.set.BaselineSet.{BaselineSet}
use Rattle.bitset.specs.Sets.{has}
use Rattle.bitset.proofs.Members.{has_none}
use Rattle.evidence.specs.Table.{Sound}
use Rattle.evidence.specs.Pairs.{pairs}
use Rattle.evidence.specs.Changes.{is_pair}
use Rattle.evidence.proofs.PairCounts.{one_if, pairs_none, pairs_put}
use Rattle.evidence.proofs.Puts.{put_sound}
use Rattle.ledgers.specs.declared.word_grid.WordGrid.{WordGrid}
use Rattle.ledgers.specs.Grid.{none, grid}
use Rattle.ledgers.proofs.Sets.{Pair}

-- what a grid keeps, by its ghost fields
abbrev pub Kept : List BaselineSet → ℕ → ℕ → Type 0
Kept rows n sharing = record { long : length rows ≡ 64; sound : Sound (grid n rows); counted : sharing ≡ pairs (grid n rows) }

-- ---- no baselines

-- every row of a blank grid is empty
getD_blank : (n i : ℕ) (r : BaselineSet) → r.bits ≡ 0 → (get_or (replicate n r) i none).bits ≡ 0
getD_blank zero i r e = refl
getD_blank (suc n) zero r e = e
getD_blank (suc n) (suc i) r e = getD_blank n i r e

-- a grid of empty rows
pub kept_none : (r : BaselineSet) → r.bits ≡ 0 → Kept (replicate 64 r) 0 0
kept_none r e =
    let off : (i j : ℕ) → (grid 0 (replicate 64 r)).shares i j ≡ false = λ i j. ap (λ m. has m j) (getD_blank 64 i r e) ∙ has_none j in
    record {
      long = refl;
      sound = record { few = omega arith; alike = λ i j. off i j ∙ sym (off j i); apart = λ i. off i i; within = λ i j _. off i j };
      counted = sym (pairs_none (grid 0 (replicate 64 r)) refl);
    }

-- ---- one pair written in both rows

module _ (g : WordGrid) (i j : ℕ) (on : Bool) (pair : Pair g.baselines.count i j) (x y : BaselineSet)
    (row-i : (k : ℕ) → has x.bits k ≡ cond (eqb k j && ltb j 64) on (has (get_or g.rows i none).bits k))
    (row-j : (k : ℕ) → has y.bits k ≡ cond (eqb k i && ltb i 64) on (has (get_or (set g.rows i x) j none).bits k)) where
  abbrev n : ℕ
  n = g.baselines.count

  abbrev rows : List BaselineSet
  rows = g.rows

  -- the rows with row i and then row j written
  abbrev pub written : List BaselineSet
  written = set (set rows i x) j y

  -- the pair has its state now, and the others are as they were
  pub written_put : (a b : ℕ) → (grid n written).shares a b ≡ cond (is_pair i j a b) on ((grid n rows).shares a b)
  written_put a b =
      let few = g.sound.few in
      let i-in = lt-ltb i 64 (omega (arith, pair.0)) in
      let j-in = lt-ltb j 64 (omega (arith, pair.1)) in
      ⊎_elim
      (λ (e : a ≡ j). let h : j < length (set rows i x) = simp length-set (omega (arith, g.long, pair.1)) in
      ap (λ m. has (get_or written m none).bits b) e ∙ ap (λ (s : BaselineSet). has s.bits b) (get_or-set_same (set rows i x) j y none h) ∙ row-j b
      ∙ ap (λ (s : BaselineSet). cond (eqb b i && ltb i 64) on (has s.bits b)) (get_or-set_other rows i j x none (λ p. pair.2 (sym p)))
      ∙ rw (e, i-in) (grind (arith, nat_tests)))
      (λ e. ap (λ (s : BaselineSet). has s.bits b) (get_or-set_other (set rows i x) j a y none e) ∙
      ⊎_elim
      (λ (f : a ≡ i). let h : i < length rows = omega (arith, g.long, pair.0) in
      ap (λ m. has (get_or (set rows i x) m none).bits b) f ∙ ap (λ (s : BaselineSet). has s.bits b) (get_or-set_same rows i x none h) ∙ row-i b
      ∙ rw (f, j-in) (grind (arith, nat_tests)))
      (λ f. ap (λ (s : BaselineSet). has s.bits b) (get_or-set_other rows i a x none f) ∙ grind (arith, nat_tests))
      (cases_eq a i))
      (cases_eq a j)

  -- the number of sharing pairs moves by this pair
  pub written_pairs : pairs (grid n written) + one_if ((grid n rows).shares i j) ≡ g.sharing + one_if on
  written_pairs = omega (arith, g.counted, pairs_put (grid n rows) (grid n written) on refl i j pair.2 pair.0 pair.1 g.sound written_put)

  -- and with that number the grid keeps what it keeps
  pub written_kept : (sharing : ℕ) → sharing ≡ pairs (grid n written) → Kept written n sharing
  written_kept sharing counted = record {
    long = simp length-set g.long;
    sound = put_sound (grid n rows) (grid n written) i j on g.sound pair.0 pair.1 pair.2 refl written_put;
    counted = counted;
  }

-- The table of a drawing: bytes, two imager numbers to a baseline.
use Rattle.std.specs.Prelude.{◌≡◌, ℕ, ◌+◌, ◌*◌, ◌/◌, ◌<◌, min, Bool, true, false, not, ◌&&◌, ◌||◌, ◌≢◌, List, length, ◌==◌, slice_index, refl}
use Rattle.std.proofs.Common.{arith}
use Rattle.std.proofs.Math.Bool.{and_comm}
use Rattle.evidence.specs.Table.{Table, Sound, of_pairs, pairs_sound}
pub use Rattle.evidence.specs.Table.{eqb_comm}
use Rattle.evidence.specs.LineGraph.{On}

-- The two imager numbers of a baseline, as they are drawn.
abbrev pub Entry : Type 0
Entry = ℕ × ℕ

-- How many entries the bytes make: at most 64, and an odd last byte makes none.
abbrev pub entries : List ℕ → ℕ
entries bytes = min 64 (length bytes / 2)

-- The entry of baseline i.
abbrev pub entry : List ℕ → ℕ → Entry
entry bytes i = (slice_index bytes (2 * i), slice_index bytes (2 * i + 1))

-- Some number stands in both entries.
abbrev pub some_common : Entry → Entry → Bool
some_common d e = (d.0 == e.0 || d.0 == e.1) || (d.1 == e.0 || d.1 == e.1)

-- Both entries hold the same two different numbers.
abbrev pub same_two : Entry → Entry → Bool
same_two d e =
    (not (d.0 == d.1) && not (e.0 == e.1))
    && ((d.0 == e.0 && d.1 == e.1) || (d.0 == e.1 && d.1 == e.0))

-- Exactly one number stands in both entries: some number does, and not two.
abbrev pub one_common : Entry → Entry → Bool
one_common d e = some_common d e && not (same_two d e)

-- The same as a fact: a number stands in both, and no other does.
abbrev pub ExactlyOne : Entry → Entry → Type 0
ExactlyOne d e = (v : ℕ) × On v d × On v e × ((w : ℕ) → On w d → On w e → w ≡ v)

-- Two different baselines share when exactly one number stands in both entries.
abbrev pub drawn : List ℕ → Table
drawn bytes = of_pairs (entries bytes) (λ i j. one_common (entry bytes i) (entry bytes j))

-- A drawing is proper when each entry has two different numbers and no two entries hold the same two.
pub record Proper (bytes : List ℕ) : Type 0 where
  pub different : (i : ℕ) → i < entries bytes → (entry bytes i).0 ≢ (entry bytes i).1
  pub distinct : (i j : ℕ) → i < entries bytes → j < entries bytes → i ≢ j → same_two (entry bytes i) (entry bytes j) ≡ false

-- The entry of baseline i has two different numbers, and no entry before it holds the same two.
pub record New (bytes : List ℕ) (i : ℕ) : Type 0 where
  pub different : (entry bytes i).0 ≢ (entry bytes i).1
  pub distinct : (j : ℕ) → j < i → same_two (entry bytes i) (entry bytes j) ≡ false

-- The table of a drawing is sound.
or_swap : (p q r s : Bool) → ((p || q) || (r || s)) ≡ ((p || r) || (q || s))
or_swap true q r s = refl
or_swap false true true s = refl
or_swap false true false s = refl
or_swap false false true s = refl
or_swap false false false s = refl

common_comm : (d e : Entry) → one_common d e ≡ one_common e d
common_comm d e =
    let ca = eqb_comm e.0 d.0 in
    let cb = eqb_comm e.0 d.1 in
    let da = eqb_comm e.1 d.0 in
    let db = eqb_comm e.1 d.1 in
    let some = or_swap (d.0 == e.0) (d.0 == e.1) (d.1 == e.0) (d.1 == e.1) in
    let apart = and_comm (not (d.0 == d.1)) (not (e.0 == e.1)) in
    let cross = and_comm (d.0 == e.1) (d.1 == e.0) in
    cc

pub drawn_sound : (bytes : List ℕ) → Sound (drawn bytes)
drawn_sound bytes = pairs_sound (entries bytes) _ (omega arith) (λ i j. common_comm (entry bytes i) (entry bytes j))

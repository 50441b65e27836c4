-- Rows that were loaded from a table tell that table.
use Rattle.std.proofs.Common.{◌≡◌, ℕ, zero, suc, ◌+◌, ◌^◌, ◌<◌, ◌≤◌, Bool, true, false, ◌&&◌, ◌||◌, eqb, ltb, List, length, set, replicate, sym, refl, ap, ◌∙◌, subst, ⊎_elim, arith, length-set}
use mathlib.Core.Path.{fun_ext}
use Rattle.std.proofs.lemmas.List.{get_or-set_same, get_or-set_other}
use Rattle.std.proofs.lemmas.Bool.{cases_eq, cases_lt, lt-ltb, le-ltb}
use Rattle.std.proofs.lemmas.Bool.Decides.{nat_tests}
use Rattle.bitset.specs.declared.set.BaselineSet.{BaselineSet}
use Rattle.bitset.specs.Sets.{has}
use Rattle.bitset.proofs.Members.{has_none, same_set, empty_set}
use Rattle.evidence.specs.Table.{Table, Sound}
use Rattle.theory.specs.Stars.{row}
use Rattle.theory.proofs.Rows.{row_lt, row_has}
use Rattle.layout.specs.Tables.{none, bits_at, table_of}

-- ---- one row

-- nobody was asked: the row is empty
pub none_asked : (f : ℕ → Bool) (m : ℕ) → m ≡ 0 → (k : ℕ) → has m k ≡ (ltb k 0 && f k)
none_asked f m e k = ap (λ x. has x k) e ∙ has_none k ∙ sym (ap (λ b. b && f k) (le-ltb k 0 (omega arith)))

-- j shares, and is put in the row
pub shared : (f : ℕ → Bool) (m m' j : ℕ) → j < 64 → ((k : ℕ) → has m k ≡ (ltb k j && f k)) → f j ≡ true
    → ((k : ℕ) → has m' k ≡ (has m k || (eqb k j && ltb j 64))) → (k : ℕ) → has m' k ≡ (ltb k (j + 1) && f k)
shared f m m' j l was on is k = ⊎_elim here there (cases_eq k j)
  where
    here : k ≡ j → has m' k ≡ (ltb k (j + 1) && f k)
    here h = let fk : f k ≡ true = ap f h ∙ on in is k ∙ rw (was k, fk) (grind (arith, nat_tests))

    there : (k ≡ j → ⊥) → has m' k ≡ (ltb k (j + 1) && f k)
    there h = is k ∙ rw (was k) (grind (arith, nat_tests))

-- j does not share
pub not_shared : (f : ℕ → Bool) (m j : ℕ) → ((k : ℕ) → has m k ≡ (ltb k j && f k)) → f j ≡ false
    → (k : ℕ) → has m k ≡ (ltb k (j + 1) && f k)
not_shared f m j was off k = was k ∙ ⊎_elim here there (cases_eq k j)
  where
    here : k ≡ j → (ltb k j && f k) ≡ (ltb k (j + 1) && f k)
    here h = let fk : f k ≡ false = ap f h ∙ off in rw fk (grind (arith, nat_tests))

    there : (k ≡ j → ⊥) → (ltb k j && f k) ≡ (ltb k (j + 1) && f k)
    there h = grind (arith, nat_tests)

-- when all were asked, it is the row of the table
pub all_asked : (t : Table) → Sound t → (i m : ℕ) → m < 2 ^ 64 → ((k : ℕ) → has m k ≡ (ltb k t.count && t.shares i k)) → m ≡ row t i
all_asked t sound i m l is =
    same_set 64 m (row t i) l (row_lt t i) (λ k _. is k ∙ ⊎_elim (inside k) (outside k) (cases_lt k t.count))
  where
    inside : (k : ℕ) → k < t.count → (ltb k t.count && t.shares i k) ≡ has (row t i) k
    inside k h = ap (λ b. b && t.shares i k) (lt-ltb k t.count h) ∙ sym (row_has t sound i k)

    outside : (k : ℕ) → t.count ≤ k → (ltb k t.count && t.shares i k) ≡ has (row t i) k
    outside k h =
        ap (λ b. b && t.shares i k) (le-ltb k t.count h)
        ∙ sym (row_has t sound i k ∙ sound.alike i k ∙ sound.within k i h)

-- ---- all rows

-- the rows below n are those of the table, and the others are empty
pub record Loaded (t : Table) (rows : List BaselineSet) (n : ℕ) : Type 0 where
  pub long : length rows ≡ 64
  pub before : (i : ℕ) → i < n → bits_at rows i ≡ row t i
  pub after : (i : ℕ) → n ≤ i → bits_at rows i ≡ 0

-- every set of an array of empty sets is empty
bits_blank : (n i : ℕ) (x : BaselineSet) → x.bits ≡ 0 → bits_at (replicate n x) i ≡ 0
bits_blank zero i x e = refl
bits_blank (suc n) zero x e = e
bits_blank (suc n) (suc i) x e = bits_blank n i x e

-- none is loaded
pub loaded_none : (t : Table) (x : BaselineSet) → x.bits ≡ 0 → Loaded t (replicate 64 x) 0
loaded_none t x e = record { long = refl; before = λ i l. absurd (omega arith); after = λ i _. bits_blank 64 i x e }

-- one row more
pub loaded_more : (t : Table) (rows : List BaselineSet) (n : ℕ) (x : BaselineSet) → n < 64 → x.bits ≡ row t n → Loaded t rows n
    → Loaded t (set rows n x) (n + 1)
loaded_more t rows n x l e was = record {
  long = simp length-set was.long;
  before = λ i h. ⊎_elim (here i) (λ ne. there i ne ∙ was.before i (omega arith)) (cases_eq i n);
  after = λ i h. there i (λ e. omega arith) ∙ was.after i (omega arith);
}
  where
    here : (i : ℕ) → i ≡ n → bits_at (set rows n x) i ≡ row t i
    here i h =
        let long = was.long in
        ap (bits_at (set rows n x)) h ∙ ap (λ (s : BaselineSet). s.bits) (get_or-set_same rows n x none (omega arith)) ∙ e ∙ ap (row t) (sym h)

    there : (i : ℕ) → (i ≡ n → ⊥) → bits_at (set rows n x) i ≡ bits_at rows i
    there i ne = ap (λ (s : BaselineSet). s.bits) (get_or-set_other rows n i x none ne)

-- what rows keep, in the order of their ghost fields
abbrev pub Kept : ℕ → List BaselineSet → Type 0
Kept n rows = record {
  long : length rows ≡ 64;
  small : (i : ℕ) → bits_at rows i < 2 ^ 64;
  sound : Sound (table_of n rows);
}

module _ (t : Table) (sound : Sound t) (n : ℕ) (rows : List BaselineSet) (e : n ≡ t.count) (k : ℕ) (reached : n ≤ k) (loaded : Loaded t rows k) where
  -- each row is that of the table
  row_is : (i : ℕ) → bits_at rows i ≡ row t i
  row_is i =
      ⊎_elim
      (loaded.before i)
      (λ h. loaded.after i h ∙ sym (empty_set 64 _ (row_lt t i) (λ j _. row_has t sound i j ∙ sound.within i j (omega arith))))
      (cases_lt i k)

  -- so the rows tell the table
  pub loaded_told : table_of n rows ≡ t
  loaded_told =
      ap (λ m. table_of m rows) e
      ∙ ap (λ f. record { count = t.count; shares = f })
      (fun_ext (λ i. fun_ext (λ j. ap (λ m. has m j) (row_is i) ∙ row_has t sound i j)))

  -- and keep what rows keep
  pub loaded_kept : Kept n rows
  loaded_kept = record { long = loaded.long; small = λ i. rw (row_is i) (row_lt t i); sound = subst Sound (sym loaded_told) sound }

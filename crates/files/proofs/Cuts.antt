-- The fields of a line, cut at its commas.
use Rattle.std.proofs.Common.{◌≡◌, ℕ, suc, ◌+◌, ◌-◌, ◌<◌, Bool, true, false, cond, eqb, ◌==◌, count_by, List, [], ◌∷◌, ◌++◌, length, take, drop, sym, refl, ap, ◌∙◌, arith}
use Rattle.std.proofs.lemmas.List.{take-append-drop, drop_more, take_rest, get_or-take, length-take-le}
use Rattle.std.proofs.lemmas.Bool.{ne_eqb}
use Rattle.std.proofs.lemmas.List.Recursion.{is_count_by}
use Rattle.files.specs.Reading.{Lacks, FirstAt, fields, put_before}

rest_lacks : (x : ℕ) (a : List ℕ) (b : ℕ) → Lacks b (x ∷ a) → Lacks b a
rest_lacks x a b h k l q = h (suc k) (omega arith) q

-- a line with no comma is one field
pub fields_one : (line : List ℕ) → Lacks 44 line → fields line ≡ line ∷ []
unfolding fields put_before
fields_one [] h = refl
fields_one (x ∷ line) h =
    let ne = ne_eqb x 44 (h 0 (omega arith)) in
    rw (ne, fields_one line (rest_lacks x line 44 h))

-- what lies before the first comma is the first field
pub fields_more : (a b : List ℕ) → Lacks 44 a → fields (a ++ (44 ∷ b)) ≡ a ∷ fields b
unfolding fields put_before
fields_more [] b h = refl
fields_more (x ∷ a) b h =
    let ne = ne_eqb x 44 (h 0 (omega arith)) in
    rw (ne, fields_more a b (rest_lacks x a 44 h))

-- the same at the place of the comma, the two parts as slices have them
pub fields_at : (line : List ℕ) (i : ℕ) → FirstAt 44 line i
    → fields line ≡ take i line ∷ fields (take (length line - (i + 1)) (drop (i + 1) line))
fields_at line i at =
    let long = length-take-le i line (omega (arith, at.within)) in
    let lacks : Lacks 44 (take i line) = λ k l q. at.first k (omega arith) (sym (get_or-take i line k 0 (omega arith)) ∙ q) in
    let whole : line ≡ take i line ++ (44 ∷ drop (i + 1) line) =
    sym (take-append-drop i line) ∙ ap (λ (x : List ℕ). take i line ++ x) (rw at.here at (drop_more line i 0 at.within)) in
    rw (take_rest line (i + 1)) (ap fields whole ∙ fields_more (take i line) (drop (i + 1) line) lacks)

-- a comma begins another field, and no other byte does
length_put_before : (b : ℕ) (texts : List (List ℕ)) → 0 < length texts → length (put_before b texts) ≡ length texts
unfolding put_before
length_put_before b [] h = absurd (omega arith)
length_put_before b (text ∷ texts) h = refl

pub fields_some : (line : List ℕ) → 0 < length (fields line)
unfolding fields put_before
fields_some [] = omega arith
fields_some (b ∷ line) = either (eqb b 44) (fields_some line)
  where
    either : (comma : Bool) → 0 < length (fields line) → 0 < length (cond comma ([] ∷ fields line) (put_before b (fields line)))
    either true h = omega arith
    either false h = rw (length_put_before b (fields line) h) h

fields_more_by : (b : ℕ) (line : List ℕ)
    → length (fields (b ∷ line)) - 1 ≡ cond (b == 44) (1 + (length (fields line) - 1)) (length (fields line) - 1)
unfolding fields
fields_more_by b line = either (b == 44)
  where
    either : (comma : Bool)
        → length (cond comma ([] ∷ fields line) (put_before b (fields line))) - 1 ≡ cond comma (1 + (length (fields line) - 1)) (length (fields line) - 1)
    either true = omega (arith, fields_some line)
    either false = ap (λ n. n - 1) (length_put_before b (fields line) (fields_some line))

-- so there is one field more than commas
pub length_fields : (line : List ℕ) → length (fields line) ≡ count_by (λ b. b == 44) line + 1
unfolding fields
length_fields line =
    let commas = is_count_by (λ l. length (fields l) - 1) (λ b. b == 44) refl fields_more_by line in
    omega (arith, fields_some line)

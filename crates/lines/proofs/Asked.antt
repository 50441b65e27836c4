-- What the fields of a line say of it.
use Rattle.std.proofs.Common.{◌≡◌, ℕ, List, [], ◌∷◌, ◌++◌, length, get_or, decimal, sym, ap, ◌∙◌, arith}
use Rattle.files.specs.Line.{line, parted}
use Rattle.files.specs.Reading.{fields}
use Rattle.files.proofs.Joins.{parted_fields}

-- a line is made of its fields
pub line_of_fields : (bytes text : List ℕ) (texts : List (List ℕ)) → bytes ≡ text ++ (10 ∷ []) → fields text ≡ texts → bytes ≡ line texts
unfolding line
line_of_fields bytes text texts e f =
    e ∙ ap (λ (t : List ℕ). t ++ (10 ∷ [])) (sym (parted_fields text)) ∙ ap (λ (t : List (List ℕ)). parted t ++ (10 ∷ [])) f

-- fields, by their number and what they are
pub one_field : (texts : List (List ℕ)) (word : List ℕ) → length texts ≡ 1 → get_or texts 0 [] ≡ word → texts ≡ word ∷ []
one_field [] word n w = absurd (omega (arith, n))
one_field (x ∷ []) word n w = ap (λ (t : List ℕ). t ∷ []) w
one_field (x ∷ y ∷ texts) word n w = absurd (omega (arith, n))

pub two_fields : (texts : List (List ℕ)) (word first : List ℕ) → length texts ≡ 2 → get_or texts 0 [] ≡ word → get_or texts 1 [] ≡ first
    → texts ≡ word ∷ first ∷ []
two_fields [] word first n w f = absurd (omega (arith, n))
two_fields (x ∷ []) word first n w f = absurd (omega (arith, n))
two_fields (x ∷ y ∷ []) word first n w f = ap (λ (t : List ℕ). t ∷ y ∷ []) w ∙ ap (λ (t : List ℕ). word ∷ t ∷ []) f
two_fields (x ∷ y ∷ z ∷ texts) word first n w f = absurd (omega (arith, n))

pub pair_fields : (texts : List (List ℕ)) (word other : List ℕ) (i j : ℕ) → texts ≡ other ∷ decimal i ∷ decimal j ∷ [] → get_or texts 0 [] ≡ word
    → texts ≡ word ∷ decimal i ∷ decimal j ∷ []
pair_fields texts word other i j e w =
    let same : other ≡ word = sym (ap (λ (t : List (List ℕ)). get_or t 0 []) e) ∙ w in
    e ∙ ap (λ (t : List ℕ). t ∷ decimal i ∷ decimal j ∷ []) same

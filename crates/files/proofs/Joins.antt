-- Fields that are joined and cut again, and lines that are cut and joined again.
use Rattle.std.proofs.Common.{◌≡◌, ℕ, suc, ◌<◌, Bool, true, false, cond, eqb, List, [], ◌∷◌, length, get_or, refl, ap, ◌∙◌, arith}
use Rattle.std.proofs.lemmas.List.{append-nil}
use Rattle.std.proofs.lemmas.Bool.{eqb-true}
use Rattle.files.specs.Line.{parted}
use Rattle.files.specs.Reading.{Lacks, fields, put_before}
use Rattle.files.proofs.Cuts.{fields_one, fields_more, fields_some}

-- texts without commas are the fields of the line that they make
pub fields_parted : (texts : List (List ℕ)) → 0 < length texts → ((k : ℕ) → k < length texts → Lacks 44 (get_or texts k [])) → fields (parted texts) ≡ texts
fields_parted [] some lacks = absurd (omega arith)
fields_parted (x ∷ []) some lacks = ap fields (append-nil x) ∙ fields_one x (lacks 0 (omega arith))
fields_parted (x ∷ y ∷ texts) some lacks =
    fields_more x (parted (y ∷ texts)) (lacks 0 (omega arith))
    ∙ ap (λ (l : List (List ℕ)). x ∷ l) (fields_parted (y ∷ texts) (omega arith) (λ k l. lacks (suc k) (omega arith)))

-- the fields of a line make it again
parted_comma : (texts : List (List ℕ)) → 0 < length texts → parted ([] ∷ texts) ≡ 44 ∷ parted texts
parted_comma [] some = absurd (omega arith)
parted_comma (x ∷ texts) some = refl

parted_before : (b : ℕ) (texts : List (List ℕ)) → 0 < length texts → parted (put_before b texts) ≡ b ∷ parted texts
unfolding put_before
parted_before b [] some = absurd (omega arith)
parted_before b (x ∷ texts) some = refl

pub parted_fields : (line : List ℕ) → parted (fields line) ≡ line
unfolding fields
parted_fields [] = refl
parted_fields (b ∷ line) = either (eqb b 44) refl (parted_fields line)
  where
    either : (comma : Bool) → eqb b 44 ≡ comma → parted (fields line) ≡ line → parted (cond comma ([] ∷ fields line) (put_before b (fields line))) ≡ b ∷ line
    either true e h = let same = eqb-true b 44 e in parted_comma (fields line) (fields_some line) ∙ cc
    either false e h = parted_before b (fields line) (fields_some line) ∙ ap (λ (l : List ℕ). b ∷ l) h

-- How many baselines are doubtful, counted over the entries of a record.
use Rattle.std.proofs.Common.{◌≡◌, ℕ, zero, suc, ◌+◌, Bool, true, false, cond, List, [], ◌∷◌, get_or, take, sym, refl, ap, ◌∙◌, add_assoc}
use Rattle.std.specs.List.{count_by}
use Rattle.std.proofs.lemmas.List.Sums.{sum_by-cons}
use Rattle.std.proofs.lemmas.Bool.{false≢true}
use Rattle.theory.specs.declared.record.Record.{Record}
use Rattle.theory.specs.declared.record.Entry.{Entry}
use Rattle.theory.specs.Record.{blank, doubt_of}
use Rattle.survey.specs.Resolves.{how_many}

-- How many of the first entries are doubtful.
abbrev pub doubtful : ℕ → List Entry → ℕ
doubtful n xs = count_by (λ x. x.doubtful) (take n xs)

cons : (x : Entry) (xs : List Entry) → count_by (λ y. y.doubtful) (x ∷ xs) ≡ cond x.doubtful 1 0 + count_by (λ y. y.doubtful) xs
cons x xs = sum_by-cons (λ y. cond y.doubtful 1 0) x xs

-- one entry more; past the last there is none
one_more : (xs : List Entry) (n : ℕ) (b : Bool) → (get_or xs n blank).doubtful ≡ b → doubtful (suc n) xs ≡ cond b (doubtful n xs + 1) (doubtful n xs)
one_more [] n true is = absurd (false≢true is)
one_more [] zero false is = refl
one_more [] (suc n) false is = refl
one_more (x ∷ xs) zero true is = rw is refl
one_more (x ∷ xs) zero false is = rw is refl
one_more (x ∷ xs) (suc n) true is =
    let more : doubtful (suc n) xs ≡ doubtful n xs + 1 = one_more xs n true is in
    cons x (take (suc n) xs) ∙ ap (λ k. cond x.doubtful 1 0 + k) more ∙ sym (add_assoc (cond x.doubtful 1 0) (doubtful n xs) 1)
    ∙ ap (λ k. k + 1) (sym (cons x (take n xs)))
one_more (x ∷ xs) (suc n) false is =
    let more : doubtful (suc n) xs ≡ doubtful n xs = one_more xs n false is in
    cons x (take (suc n) xs) ∙ ap (λ k. cond x.doubtful 1 0 + k) more ∙ sym (cons x (take n xs))

pub counted : (r : Record) (n : ℕ) → doubtful n r.entries ≡ how_many (doubt_of r) n
counted r zero = refl
counted r (suc n) =
    one_more r.entries n (doubt_of r n) refl ∙ ap (λ k. cond (doubt_of r n) (k + 1) k) (counted r n)

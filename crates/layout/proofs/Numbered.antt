-- The next star of the list of all stars gets the next number.
use Rattle.std.proofs.Common.{◌≡◌, ℕ, ◌+◌, ◌<◌, ◌≤◌, Bool, true, false, cond, ◌||◌, eqb, ltb, List, [], ◌∷◌, ◌++◌, length, get_or, MatchBool, sym, refl, ap, ◌∙◌, subst, ap₂, arith, length-append}
use Rattle.std.proofs.lemmas.List.{append-nil, length_push, get_or_push, get_or_append_left}
use Rattle.std.proofs.lemmas.Bool.{cond-false, false_from_ne_true}
use Rattle.std.proofs.lemmas.Bool.Decides.{nat_tests}
use Rattle.bitset.specs.Sets.{has, lowest}
use Rattle.evidence.specs.Table.{Table, Sound}
use Rattle.theory.specs.Layout.{Ends, stands}
use Rattle.theory.specs.declared.record.Entry.{Entry}
use Rattle.theory.specs.Record.{blank}
use Rattle.theory.specs.Stars.{star, Stars}
use Rattle.theory.specs.Imagers.{begun_by, all_stars, layout_of}
use Rattle.theory.proofs.Begun.{begun_at}
use Rattle.theory.proofs.Held.{two_places}
use Rattle.layout.specs.declared.numbers.Numbers.{Numbers}
use Rattle.layout.specs.Numbers.{given, Given, Begun}

-- ---- one entry

-- What an entry tells when n imagers have numbers.
abbrev pub upto : Ends → ℕ → Bool → Entry
upto e n doubtful = record { lower = cond (ltb e.0 n) e.0 0; higher = cond (ltb e.1 n) e.1 0; doubtful = doubtful }

-- the lower number of an entry, when the number n is given to the baselines that have it
lower_more : (p q n : ℕ) → p < q
    → cond (eqb n p || eqb n q) (cond (ltb p n) (cond (ltb p n) p 0) n) (cond (ltb p n) p 0) ≡ cond (ltb p (n + 1)) p 0
lower_more p q n h = grind (arith, nat_tests)

-- its higher number
higher_more : (p q n : ℕ) → p < q
    → cond (eqb n p || eqb n q) (cond (ltb p n) n (cond (ltb q n) q 0)) (cond (ltb q n) q 0) ≡ cond (ltb q (n + 1)) q 0
higher_more p q n h = grind (arith, nat_tests)

-- and whether it has a number
begun_more : (p q n : ℕ) → p < q → (ltb p n || (eqb n p || eqb n q)) ≡ ltb p (n + 1)
begun_more p q n h = grind (arith, nat_tests)

-- the fields of an entry with one imager more
given_fields : (b c : Bool) (e : Entry) (n : ℕ)
    → cond b (given e c n) e
    ≡ record { lower = cond b (cond c e.lower n) e.lower; higher = cond b (cond c n e.higher) e.higher; doubtful = e.doubtful }
given_fields true true e n = refl
given_fields true false e n = refl
given_fields false c e n = refl

-- the next number comes to an entry
upto_more : (e : Ends) (n : ℕ) (doubtful : Bool) → e.0 < e.1
    → cond (stands n e) (given (upto e n doubtful) (ltb e.0 n) n) (upto e n doubtful) ≡ upto e (n + 1) doubtful
upto_more e n doubtful h =
    given_fields (stands n e) (ltb e.0 n) (upto e n doubtful) n
    ∙ ap₂ (λ a b. record { lower = a; higher = b; doubtful = doubtful }) (lower_more e.0 e.1 n h) (higher_more e.0 e.1 n h)

-- ---- all entries

-- The entries tell the numbers of the imagers whose stars are in the list.
pub record Numbering (t : Table) (near : ℕ → ℕ) (doubtful : ℕ → Bool) (stars : List ℕ) (x : Numbers) : Type 0 where
  pub next : x.next ≡ length stars
  pub begun : (w : ℕ) → w < t.count → has x.begun.bits w ≡ ltb (layout_of t near w).0 (length stars)
  pub told : (w : ℕ) → w < t.count → get_or x.entries w blank ≡ upto (layout_of t near w) (length stars) (doubtful w)
  pub past : (w : ℕ) → t.count ≤ w → get_or x.entries w blank ≡ blank

module _ {t : Table} (sound : Sound t) {near : ℕ → ℕ} (good : Stars t (λ v. v < t.count) (star t near)) (doubtful : ℕ → Bool) where
  -- the next star of the list gets its number
  numbering_give : (stars rest : List ℕ) (a : ℕ) (x y : Numbers) → all_stars t near ≡ (stars ++ a ∷ []) ++ rest
      → Given x a y → Numbering t near doubtful stars x → Numbering t near doubtful (stars ++ a ∷ []) y
  numbering_give stars rest a x y all g s = record {
    next = g.next ∙ ap (λ n. n + 1) s.next ∙ sym more;
    begun = λ w l. g.begun w ∙ ap₂ ◌||◌ (s.begun w l) (holds w l)
        ∙ begun_more (layout_of t near w).0 (layout_of t near w).1 (length stars) (two_places sound good w l).rises
        ∙ ap (ltb (layout_of t near w).0) (sym more);
    told = λ w l. g.entries w
        ∙ told_more w l
        ∙ ap (λ n. upto (layout_of t near w) n (doubtful w)) (sym more);
    past = λ w l. g.entries w ∙ cond-false _ _ _ (outside w l) ∙ s.past w l;
  }
    where
      more : length (stars ++ a ∷ []) ≡ length stars + 1
      more = length_push stars a

      within : length stars < length (all_stars t near)
      within = omega (arith, ap length all, length-append (stars ++ a ∷ []) rest, more)

      at : get_or (all_stars t near) (length stars) 0 ≡ a
      at =
          ap (λ l. get_or l (length stars) 0) all
          ∙ get_or_append_left (stars ++ a ∷ []) rest 0 (length stars) (omega (arith, more)) ∙ get_or_push stars a 0 (length stars) refl

      holds : (w : ℕ) → w < t.count → has a w ≡ stands (length stars) (layout_of t near w)
      holds w l = ap (λ b. has b w) (sym at) ∙ (two_places sound good w l).at (length stars) within

      told_more : (w : ℕ) → w < t.count
          → cond (has a w) (given (get_or x.entries w blank) (has x.begun.bits w) x.next) (get_or x.entries w blank)
          ≡ upto (layout_of t near w) (length stars + 1) (doubtful w)
      told_more w l =
          ap₂ (λ e n. cond (has a w) (given e (has x.begun.bits w) n) e) (s.told w l) s.next
          ∙ ap₂ (λ b c. cond b (given (upto (layout_of t near w) (length stars) (doubtful w)) c (length stars)) (upto (layout_of t near w) (length stars) (doubtful w)))
          (holds w l) (s.begun w l)
          ∙ upto_more (layout_of t near w) (length stars) (doubtful w) (two_places sound good w l).rises

      outside : (w : ℕ) → t.count ≤ w → has a w ≡ false
      outside w l = false_from_ne_true _ (λ h.
          let b = begun_at t near t.count (length stars) within in
          omega (arith, good.inside b.at b.side w b.below (ap (λ c. has c w) (sym (sym at ∙ b.is)) ∙ h)))

  -- a star that begins at v gets its number
  pub numbering_begin : (stars rest : List ℕ) (v a : ℕ) (x y : Numbers) → all_stars t near ≡ (stars ++ begun_by v a) ++ rest
      → Begun x v a y → Numbering t near doubtful stars x → Numbering t near doubtful (stars ++ begun_by v a) y
  unfolding begun_by
  numbering_begin stars rest v a x y = go (eqb (lowest a) v)
    where
      go : (b : Bool) → all_stars t near ≡ (stars ++ cond b (a ∷ []) []) ++ rest → MatchBool b (Given x a y) (y ≡ x)
          → Numbering t near doubtful stars x → Numbering t near doubtful (stars ++ cond b (a ∷ []) []) y
      go true all g s = numbering_give stars rest a x y all g s
      go false all e s =
          subst (λ l. Numbering t near doubtful l y) (sym (append-nil stars)) (subst (Numbering t near doubtful stars) (sym e) s)

-- The imagers get their numbers turn by turn: those whose stars begin at v, for v rising.
use Rattle.std.proofs.Common.{◌≡◌, ℕ, zero, suc, ◌+◌, ◌<◌, ◌≤◌, Bool, true, false, cond, ◌&&◌, ltb, leb, List, [], ◌++◌, length, get_or, sym, refl, ap, ◌∙◌, subst, ap₂, ⊎_elim, add-one, arith, length-append}
use Rattle.std.proofs.lemmas.List.{append-nil, append_assoc}
use Rattle.std.proofs.lemmas.Bool.{cases_eq, cond-true, lt-ltb, le-ltb}
use Rattle.std.proofs.lemmas.Bool.Decides.{nat_tests}
use Rattle.bitset.specs.declared.set.BaselineSet.{BaselineSet}
use Rattle.bitset.specs.Sets.{has}
use Rattle.bitset.proofs.Members.{has_none}
use Rattle.evidence.specs.Table.{Table, Sound}
use Rattle.theory.specs.declared.record.Entry.{Entry}
use Rattle.theory.specs.Record.{blank}
use Rattle.theory.specs.Stars.{far, star, Stars}
use Rattle.theory.specs.Imagers.{second, begun_by, begins, imagers, all_stars, layout_of}
use Rattle.theory.proofs.Begun.{imagers_length}
use Rattle.theory.proofs.Held.{two_places}
use Rattle.layout.specs.declared.numbers.Numbers.{Numbers}
use Rattle.layout.specs.Numbers.{unnumbered, Begun, Numbered}
use Rattle.layout.proofs.Numbered.{upto, Numbering, numbering_begin}

-- The doubtful baselines that entries tell.
abbrev pub marks : List Entry → ℕ → Bool
marks entries w = (get_or entries w blank).doubtful

-- ---- the list of the stars

-- the stars that begin below v stand first
pub imagers_front : (t : Table) (near : ℕ → ℕ) (v n : ℕ) → v ≤ n → (rest : List ℕ) × (imagers t near n ≡ imagers t near v ++ rest)
unfolding imagers
imagers_front t near v zero l = let e : v ≡ 0 = omega arith in ([], ap (imagers t near) (sym e) ∙ sym (append-nil (imagers t near v)))
imagers_front t near v (suc n) l =
    ⊎_elim
    (λ e. ([], ap (imagers t near) (sym e) ∙ sym (append-nil (imagers t near v))))
    (λ ne. let f = imagers_front t near v n (omega arith) in
    (f.0 ++ begins t near n, ap (λ l. l ++ begins t near n) f.1 ∙ append_assoc (imagers t near v) f.0 (begins t near n)))
    (cases_eq v (suc n))

-- the stars that begin at v, of its two in their order
pub begins_ordered : (t : Table) (near : ℕ → ℕ) (v : ℕ) (a b : BaselineSet) (o : BaselineSet × BaselineSet) → a.bits ≡ near v → b.bits ≡ far t v (near v)
    → o ≡ cond (leb (second a.bits) (second b.bits)) (a, b) (b, a)
    → begun_by v o.0.bits ++ begun_by v o.1.bits ≡ begins t near v
unfolding begins
begins_ordered t near v a b o ea eb e =
    ap (λ (p : BaselineSet × BaselineSet). begun_by v p.0.bits ++ begun_by v p.1.bits) e
    ∙ either (leb (second a.bits) (second b.bits))
    ∙ ap₂ (λ x y. cond (leb (second x) (second y)) (begun_by v x ++ begun_by v y) (begun_by v y ++ begun_by v x)) ea eb
  where
    either : (o : Bool)
        → begun_by v (cond {A = BaselineSet × BaselineSet} o (a, b) (b, a)).0.bits ++ begun_by v (cond {A = BaselineSet × BaselineSet} o (a, b) (b, a)).1.bits
        ≡ cond o (begun_by v a.bits ++ begun_by v b.bits) (begun_by v b.bits ++ begun_by v a.bits)
    either true = refl
    either false = refl

module _ {t : Table} (sound : Sound t) {near : ℕ → ℕ} (good : Stars t (λ v. v < t.count) (star t near)) (doubtful : ℕ → Bool)
    (v a b : ℕ) (below : v < t.count) (two : begun_by v a ++ begun_by v b ≡ begins t near v) where
  -- the list of all stars, cut after those of v
  abbrev rest : List ℕ
  rest = (imagers_front t near (suc v) t.count (omega arith)).0

  -- the stars that begin at v are the next ones
  turn : (imagers t near v ++ begun_by v a) ++ begun_by v b ≡ imagers t near (v + 1)
  unfolding imagers
  turn = append_assoc (imagers t near v) (begun_by v a) (begun_by v b) ∙ ap (λ l. imagers t near v ++ l) two ∙ ap (imagers t near) (sym (add-one v))

  -- the list of all stars, cut after the stars of v
  cut_after : all_stars t near ≡ ((imagers t near v ++ begun_by v a) ++ begun_by v b) ++ rest
  cut_after = (imagers_front t near (suc v) t.count (omega arith)).1 ∙ ap (λ l. l ++ rest) (ap (imagers t near) (sym (add-one v)) ∙ sym turn)

  -- and cut between them
  cut_between : all_stars t near ≡ (imagers t near v ++ begun_by v a) ++ (begun_by v b ++ rest)
  cut_between = cut_after ∙ append_assoc (imagers t near v ++ begun_by v a) (begun_by v b) rest

  -- the two stars of v get their numbers
  pub numbering_first : (x y : Numbers) → Numbering t near doubtful (imagers t near v) x → Begun x v a y
      → Numbering t near doubtful (imagers t near v ++ begun_by v a) y
  numbering_first x y s g = numbering_begin sound good doubtful (imagers t near v) (begun_by v b ++ rest) v a x y cut_between g s

  -- and the second
  pub numbering_second : (x y : Numbers) → Numbering t near doubtful (imagers t near v ++ begun_by v a) x → Begun x v b y
      → Numbering t near doubtful (imagers t near (v + 1)) y
  numbering_second x y s g =
      subst (λ l. Numbering t near doubtful l y) turn
      (numbering_begin sound good doubtful (imagers t near v ++ begun_by v a) rest v b x y cut_after g s)

  -- there is room for them: there are at most 128 imagers
  all_few : length (all_stars t near) ≤ 128
  all_few = omega (arith, imagers_length t near t.count, sound.few)

  -- for the first
  pub room_first : (x : Numbers) → Numbering t near doubtful (imagers t near v) x → x.next < 255
  room_first x s =
      let few = all_few in
      omega (arith, s.next, ap length cut_between, length-append (imagers t near v ++ begun_by v a) (begun_by v b ++ rest), length-append (imagers t near v) (begun_by v a))

  -- and for the second
  pub room_second : (x : Numbers) → Numbering t near doubtful (imagers t near v ++ begun_by v a) x → x.next < 255
  room_second x s =
      let few = all_few in
      omega (arith, s.next, ap length cut_between, length-append (imagers t near v ++ begun_by v a) (begun_by v b ++ rest))

-- at first no imager has a number
pub numbering_none : (t : Table) (near : ℕ → ℕ) (doubtful : ℕ) (x : Numbers) → x.next ≡ 0 → x.begun.bits ≡ 0
    → ((w : ℕ) → get_or x.entries w blank ≡ unnumbered (ltb w t.count && has doubtful w))
    → Numbering t near (marks x.entries) (imagers t near 0) x
unfolding imagers
numbering_none t near doubtful x next begun told = record {
  next = next;
  begun = λ w l. ap (λ m. has m w) begun ∙ has_none w ∙ sym (le-ltb (layout_of t near w).0 0 (omega arith));
  told = λ w l. ap (λ (e : Entry). record { lower = e.lower; higher = e.higher; doubtful = marks x.entries w }) (told w)
      ∙ ap₂ (λ a b. record { lower = a; higher = b; doubtful = marks x.entries w }) (zeros (layout_of t near w).0) (zeros (layout_of t near w).1);
  past = λ w l. told w ∙ ap (λ b. unnumbered (b && has doubtful w)) (le-ltb w t.count l);
}
  where
    zeros : (p : ℕ) → 0 ≡ cond (ltb p 0) p 0
    zeros p = grind (arith, nat_tests)

-- at last all have
pub numbering_all : (t : Table) → Sound t → (near : ℕ → ℕ) → Stars t (λ v. v < t.count) (star t near) → (doubtful : ℕ) (entries : List Entry) (n : ℕ) (x : Numbers)
    → n ≡ t.count → ((w : ℕ) → get_or entries w blank ≡ unnumbered (ltb w t.count && has doubtful w))
    → Numbering t near (marks entries) (imagers t near n) x → Numbered t near doubtful x
numbering_all t sound near good doubtful entries n x e marked s = record {
  imagers = s.next ∙ len;
  told = λ w l.
      let two = two_places sound good w l in
      let rises = two.rises in
      let below = two.below in
      s.told w l
      ∙ ap₂ (λ m d. upto (layout_of t near w) m d) len (is_marked w l)
      ∙ ap₂ (λ a b. record { lower = a; higher = b; doubtful = has doubtful w })
      (cond-true _ _ _ (lt-ltb (layout_of t near w).0 (length (all_stars t near)) (omega arith))) (cond-true _ _ _ (lt-ltb _ _ below));
  past = s.past;
}
  where
    len : length (imagers t near n) ≡ length (all_stars t near)
    len = ap (λ m. length (imagers t near m)) e

    is_marked : (w : ℕ) → w < t.count → marks entries w ≡ has doubtful w
    is_marked w l = ap (λ (x : Entry). x.doubtful) (marked w) ∙ ap (λ b. b && has doubtful w) (lt-ltb w t.count l)

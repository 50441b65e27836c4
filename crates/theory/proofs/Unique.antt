-- Two chosen layouts of a table that are numbered tell the same ends.
use Rattle.std.proofs.Common.{◌≡◌, ℕ, ◌<◌, ◌≤◌, Bool, true, false, not, ◌≢◌, List, sym, ap, ◌∙◌, subst, ⊎_elim, arith}
use Rattle.std.proofs.lemmas.Bool.{cases_lt, cases_eq, cases_order}
use Rattle.evidence.specs.Table.{Table}
use Rattle.theory.specs.Layout.{Ends, stands, Layout}
use Rattle.theory.specs.Groups.{GroupAlike}
use Rattle.theory.specs.Numbers.{Ahead, baselines_at, Numbered}
use Rattle.theory.specs.Theorems.{AnswerFixed}
use Rattle.theory.proofs.Below.{by_smaller}
use Rattle.theory.proofs.Order.{ahead_equal, ahead_both, same_baselines, same_list}
use Rattle.theory.proofs.Alike.{chosen_alike}
use Rattle.theory.proofs.Ends.{end_at, stands_end, which_end, end_side, ends_differ}
use Rattle.theory.proofs.Matched.{Same, both_same}

-- Two layouts of a table that group alike, both numbered, with m and k imagers.
record Pair (t : Table) (e f : ℕ → Ends) (m k : ℕ) : Type 0 where
  fits_e : Layout t e
  fits_f : Layout t f
  alike : GroupAlike t.count e f
  numbered_e : Numbered t.count e m
  numbered_f : Numbered t.count f k

-- the two in the other order
turned : {t : Table} {e f : ℕ → Ends} {m k : ℕ} → Pair t e f m k → Pair t f e k m
turned p = record {
  fits_e = p.fits_f;
  fits_f = p.fits_e;
  alike = λ s r. let x = p.alike s r in (x.1, x.0);
  numbered_e = p.numbered_f;
  numbered_f = p.numbered_e;
}

-- the two ends of a baseline of a numbered layout are below the number of imagers
end_below : {n : ℕ} {e : ℕ → Ends} {m : ℕ} → Numbered n e m → (i : ℕ) → i < n → (s : Bool) → end_at (e i) s < m
end_below num i l true = omega (arith, num.told i l)
end_below num i l false = omega (arith, num.told i l)

module _ {t : Table} {e f : ℕ → Ends} {m k : ℕ} (p : Pair t e f m k) where
  -- where b in f has the baselines of a in e and is not below a, the list at a in f is not after that in e
  ahead_later : (a b : ℕ) → b < k → a ≤ b → Same t.count e f a b
      → (a < k) × Ahead (baselines_at t.count f a) (baselines_at t.count e a)
  ahead_later a b l h same =
      (omega arith, subst (Ahead (at_f a)) (sym (same_list t.count e f a b same)) (⊎_elim equal lower (cases_eq a b)))
    where
      at_f : ℕ → List ℕ
      at_f = baselines_at t.count f

      equal : a ≡ b → Ahead (at_f a) (at_f b)
      equal q = ahead_equal (at_f a) (at_f b) (ap at_f q)

      lower : a ≢ b → Ahead (at_f a) (at_f b)
      lower d = p.numbered_f.order a b (omega arith) l

  -- where all lower imagers are the same in both, the list at a in f is not after that in e
  not_after : (a : ℕ) → a < m → ((c : ℕ) → c < a → Same t.count e f c c)
      → (a < k) × Ahead (baselines_at t.count f a) (baselines_at t.count e a)
  not_after a l lower =
      let u = p.numbered_e.used a l in
      let s = end_side (e u.0) a u.2 in
      let x = both_same t e f p.fits_e p.fits_f p.alike u.0 u.1 s.0 in
      at u.0 u.1 s.0 s.1 x.0 x.1 x.2
    where
      n : ℕ
      n = t.count

      -- a is the end s of i; the end q of i in f has its baselines, and so it is with the two other ends
      at : (i : ℕ) → i < n → (s : Bool) → a ≡ end_at (e i) s → (q : Bool)
          → Same n e f (end_at (e i) s) (end_at (f i) q) → Same n e f (end_at (e i) (not s)) (end_at (f i) (not q))
          → (a < k) × Ahead (baselines_at n f a) (baselines_at n e a)
      at i li s is q same rest = ⊎_elim below (λ h. ahead_later a b (end_below p.numbered_f i li q) h mine) (cases_lt b a)
        where
          b : ℕ
          b = end_at (f i) q

          c : ℕ
          c = end_at (f i) (not q)

          mine : Same n e f a b
          mine j lj = ap (λ d. stands d (e j)) is ∙ same j lj

          -- a lower imager at i is the other end of i
          other_end : (d : ℕ) → d < a → stands d (f i) ≡ true → d ≡ end_at (e i) (not s)
          other_end d h at_f = ⊎_elim (λ q. absurd (omega arith)) (λ q. q) (which_end (e i) s d (lower d h i li ∙ at_f))

          -- where b is lower, it is the other end of i in e too, so that both ends of i are at the same baselines
          below : b < a → (a < k) × Ahead (baselines_at n f a) (baselines_at n e a)
          below h = ⊎_elim none (λ l. ahead_later a c (end_below p.numbered_f i li (not q)) l rest_too) (cases_lt c a)
            where
              b_is : b ≡ end_at (e i) (not s)
              b_is = other_end b h (stands_end (f i) q)

              none : c < a → (a < k) × Ahead (baselines_at n f a) (baselines_at n e a)
              none l = absurd (ends_differ p.fits_f i li q (b_is ∙ sym (other_end c l (stands_end (f i) (not q)))))

              rest_too : Same n e f a c
              rest_too j lj = mine j lj ∙ sym (lower b h j lj) ∙ ap (λ d. stands d (e j)) b_is ∙ rest j lj

-- each imager is at the same baselines in both
same_imager : {t : Table} {e f : ℕ → Ends} {m k : ℕ} → Pair t e f m k → (a : ℕ) → a < m → (a < k) × Same t.count e f a a
same_imager {t} {e} {f} {m} {k} p =
    by_smaller (λ a. a < m → (a < k) × Same t.count e f a a)
    (λ a below l. step a l (λ c h. (below c h (omega arith)).1))
  where
    step : (a : ℕ) → a < m → ((c : ℕ) → c < a → Same t.count e f c c) → (a < k) × Same t.count e f a a
    step a l lower =
        let x = not_after p a l lower in
        let y = not_after (turned p) a x.0 (λ c h j lj. sym (lower c h j lj)) in
        (x.0, same_baselines t.count e f a a (ahead_both _ _ y.1 x.1))

-- two rising pairs of the same numbers are equal
same_pair : (d c : Ends) → d.0 < d.1 → c.0 < c.1 → stands d.0 c ≡ true → stands d.1 c ≡ true → d ≡ c
same_pair d c h l x y =
    let z : (d.0 ≡ c.0) × (d.1 ≡ c.1) = omega (arith, which_end c true d.0 x, which_end c true d.1 y) in
    λ i. (z.0 i, z.1 i)

-- two chosen layouts that are numbered have as many imagers and tell the same ends
pub answer_fixed : AnswerFixed
answer_fixed t e f m n ce cf ne nf = (ends, ⊎_elim (λ h. h) (⊎_elim less more) (cases_order m n))
  where
    p : Pair t e f m n
    p = record { fits_e = ce.fits; fits_f = cf.fits; alike = chosen_alike t e f ce cf; numbered_e = ne; numbered_f = nf }

    less : m < n → m ≡ n
    less h = absurd (omega (arith, (same_imager (turned p) m h).0))

    more : n < m → m ≡ n
    more h = absurd (omega (arith, (same_imager p n h).0))

    kept : (i : ℕ) → i < t.count → (s : Bool) → stands (end_at (e i) s) (f i) ≡ true
    kept i l s = sym ((same_imager p (end_at (e i) s) (end_below ne i l s)).1 i l) ∙ stands_end (e i) s

    ends : (i : ℕ) → i < t.count → e i ≡ f i
    ends i l = same_pair (e i) (f i) (ne.told i l).0 (nf.told i l).0 (kept i l true) (kept i l false)

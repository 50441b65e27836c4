-- Entries with exactly one number in common, and the line graph of a proper drawing.
use Rattle.std.proofs.Common.{◌≡◌, ℕ, Bool, ◌<◌, true, false, not, ◌||◌, eqb, ◌↔◌, List, sym, refl, ap, ◌∙◌, inl, inr, ⊎_elim, arith}
use Rattle.std.proofs.lemmas.Bool.Decides.{nat_tests}
use Rattle.std.proofs.lemmas.Bool.{cases_order, and_parts, and_from, or_cases, eqb-true, eqb-false, ne_eqb, lt-ltb, not-true, cases_Bool}
use Rattle.evidence.specs.Drawing.{Entry, entries, entry, some_common, same_two, one_common, ExactlyOne, drawn, New, Proper}
use Rattle.evidence.specs.LineGraph.{On, Touch, LineGraph}

-- entries hold the same two numbers in either order of the entries
same_two_comm : (d e : Entry) → same_two d e ≡ same_two e d
same_two_comm d e = grind (arith, nat_tests)

-- a drawing is proper when each of its entries is new
pub proper_from : (bytes : List ℕ) → ((k : ℕ) → k < entries bytes → New bytes k) → Proper bytes
proper_from bytes new = record {
  different = λ i l. (new i l).different;
  distinct = λ i j l k ne.
      ⊎_elim
      (λ e. absurd (ne e))
      (⊎_elim
      (λ h. same_two_comm (entry bytes i) (entry bytes j) ∙ (new j k).distinct i h)
      (λ h. (new i l).distinct j h))
      (cases_order i j);
}

-- each entry of a proper drawing is new
pub new_from : (bytes : List ℕ) → Proper bytes → (i : ℕ) → i < entries bytes → New bytes i
new_from bytes proper i l = record {
  different = proper.different i l;
  distinct = λ j h. proper.distinct i j l (omega arith) (λ e. omega arith);
}

-- some number stands in both entries exactly when the two edges touch
some_touch : (d e : Entry) → some_common d e ≡ true → Touch d e
some_touch d e h =
    ⊎_elim
    (λ p. ⊎_elim
    (λ q. (d.0, inl refl, inl (eqb-true d.0 e.0 q)))
    (λ q. (d.0, inl refl, inr (eqb-true d.0 e.1 q)))
    (or_cases _ _ p))
    (λ p. ⊎_elim
    (λ q. (d.1, inr refl, inl (eqb-true d.1 e.0 q)))
    (λ q. (d.1, inr refl, inr (eqb-true d.1 e.1 q)))
    (or_cases _ _ p))
    (or_cases _ _ h)

touch_some : (d e : Entry) → Touch d e → some_common d e ≡ true
touch_some d e (v, inl p, inl q) = grind (arith, nat_tests)
touch_some d e (v, inl p, inr q) = grind (arith, nat_tests)
touch_some d e (v, inr p, inl q) = grind (arith, nat_tests)
touch_some d e (v, inr p, inr q) = grind (arith, nat_tests)

-- as a test, a number stands in an entry
on_test : (v : ℕ) (e : Entry) → On v e → (eqb v e.0 || eqb v e.1) ≡ true
on_test v e (inl p) = grind (arith, nat_tests)
on_test v e (inr p) = grind (arith, nat_tests)

test_on : (v : ℕ) (e : Entry) → (eqb v e.0 || eqb v e.1) ≡ true → On v e
test_on v e h = ⊎_elim (λ p. inl (eqb-true v e.0 p)) (λ p. inr (eqb-true v e.1 p)) (or_cases _ _ h)

-- two numbers that stand in both entries are equal, or the entries hold the same two
one_only : (a b c d v w : ℕ) → one_common (a, b) (c, d) ≡ true
    → (eqb v a || eqb v b) ≡ true → (eqb v c || eqb v d) ≡ true → (eqb w a || eqb w b) ≡ true → (eqb w c || eqb w d) ≡ true
    → w ≡ v
one_only a b c d v w h va vc wa wc = grind (arith, nat_tests)

both_stand : (a b c d : ℕ) → same_two (a, b) (c, d) ≡ true
    → ((eqb a c || eqb a d) ≡ true) × ((eqb b c || eqb b d) ≡ true) × (eqb a b ≡ false)
both_stand a b c d h = (grind (arith, nat_tests), grind (arith, nat_tests), grind (arith, nat_tests))

-- the test of one common number tells that there is exactly one
pub one_tells : (d e : Entry) → (one_common d e ≡ true) ↔ ExactlyOne d e
one_tells d e = (exact, tested)
  where
    exact : one_common d e ≡ true → ExactlyOne d e
    exact h =
        let t = some_touch d e (and_parts _ _ h).0 in (
          t.0,
          t.1,
          t.2,
          λ w p q. one_only d.0 d.1 e.0 e.1 t.0 w h
              (on_test t.0 d t.1) (on_test t.0 e t.2) (on_test w d p) (on_test w e q),
        )

    not_two : ExactlyOne d e → same_two d e ≡ true → ⊥
    not_two x h =
        let s = both_stand d.0 d.1 e.0 e.1 h in
        eqb-false d.0 d.1 s.2
        (x.3 d.0 (inl refl) (test_on d.0 e s.0) ∙ sym (x.3 d.1 (inr refl) (test_on d.1 e s.1)))

    tested : ExactlyOne d e → one_common d e ≡ true
    tested x =
        and_from _ _ (touch_some d e (x.0, x.1, x.2))
        (ap not (⊎_elim (λ h. absurd (not_two x h)) (λ h. h) (cases_Bool (same_two d e))))

-- and so does what answers the same
pub one_told : (d e : Entry) (b : Bool) → b ≡ one_common d e → (b ≡ true) ↔ ExactlyOne d e
one_told d e b is = ((λ h. (one_tells d e).0 (sym is ∙ h)), (λ x. is ∙ (one_tells d e).1 x))

-- the table of a proper drawing is the line graph of its entries
pub line_graph : (bytes : List ℕ) → Proper bytes → LineGraph (entries bytes) (entry bytes) (drawn bytes)
line_graph bytes proper = record {
  nodes = refl;
  adjacent = λ i j l k. (
    (λ h.
        let p = and_parts _ _ (and_parts _ _ h).1 in
        (eqb-false i j (not-true _ p.0), some_touch (entry bytes i) (entry bytes j) (and_parts _ _ p.1).0)),
    (λ h.
        and_from _ _ (and_from _ _ (lt-ltb i _ l) (lt-ltb j _ k))
        (and_from _ _ (ap not (ne_eqb i j h.0))
        (and_from _ _ (touch_some (entry bytes i) (entry bytes j) h.1) (ap not (proper.distinct i j l k h.0))))),
  );
}

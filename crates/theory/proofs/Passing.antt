-- The list of the starts that pass: it has each of them, and the earlier ones stand first.
use Rattle.std.proofs.Common.{◌≡◌, ℕ, zero, suc, ◌<◌, true, ◌&&◌, List, [], ◌∷◌, Some, None, Option, sym, refl, ap, ◌∙◌, subst, ⊎_elim, arith}
use mathlib.Core.List.{Memᴰ}
use Rattle.std.proofs.lemmas.Bool.{and_parts, and_from, cond_both, cases_eq, both_ways}
use Rattle.bitset.specs.Sets.{has}
use Rattle.bitset.proofs.Members.{has_lt}
use Rattle.evidence.specs.Table.{Table, Sound}
use Rattle.theory.specs.Search.{Start, between, passes, passing_below, passing}
use Rattle.theory.proofs.Firsts.{between_lt}
use Rattle.theory.proofs.Prefer.{Earlier}

-- the earlier starts stand first
abbrev pub Ordered : List (Option ℕ) → Type 0
Ordered [] = Unit {0}
Ordered (x ∷ xs) = ((y : Option ℕ) → Memᴰ y xs → Earlier x y) × Ordered xs

-- x passes and has a cross below k
abbrev Below : Table → ℕ → ℕ → Option ℕ → Type 0
Below t r k x = (c : ℕ) × (x ≡ Some c) × (c < k) × (has (between t r) c ≡ true) × (passes t r (Some c) ≡ true)

module _ (t : Table) (sound : Sound t) (r : ℕ) where
  -- ---- The starts with a cross below k

  -- what is in the list is such a start
  below_start : (k : ℕ) (x : Option ℕ) → Memᴰ x (passing_below t r k) → Below t r k x
  unfolding passing_below
  below_start zero x m = absurd (mathlib.Core.List.Memᴰ.not-nil m)
  below_start (suc k) x m =
      let lower : Memᴰ x (passing_below t r k) → Below t r (suc k) x =
      λ n. let z = below_start k x n in (z.0, z.1, omega arith, z.3, z.4) in
      cond_both (has (between t r) k && passes t r (Some k)) (Some k ∷ passing_below t r k) (passing_below t r k)
      (λ l. Memᴰ x l → Below t r (suc k) x)
      (λ h n. ⊎_elim (λ e. let p = and_parts _ _ h in (k, e, omega arith, p.0, p.1)) lower (mathlib.Core.List.Memᴰ.cases_cons n))
      (λ _. lower)
      m

  -- each such start is in the list
  below_member : (k c : ℕ) → c < k → has (between t r) c ≡ true → passes t r (Some c) ≡ true → Memᴰ (Some c) (passing_below t r k)
  unfolding passing_below
  below_member zero c l b p = absurd (omega arith)
  below_member (suc k) c l b p =
      cond_both (has (between t r) k && passes t r (Some k)) (Some k ∷ passing_below t r k) (passing_below t r k)
      (Memᴰ (Some c))
      (λ _. ⊎_elim (λ e. mathlib.Core.List.Memᴰ.head (ap Some e)) (λ ne. mathlib.Core.List.Memᴰ.tail (below_member k c (omega arith) b p)) (cases_eq c k))
      (λ h. ⊎_elim (λ e. absurd (both_ways _ h (found e))) (λ ne. below_member k c (omega arith) b p) (cases_eq c k))
    where
      found : c ≡ k → (has (between t r) k && passes t r (Some k)) ≡ true
      found e = and_from _ _ (ap (has (between t r)) (sym e) ∙ b) (ap (λ z. passes t r (Some z)) (sym e) ∙ p)

  -- the highest cross stands first
  below_ordered : (k : ℕ) → Ordered (passing_below t r k)
  unfolding passing_below
  below_ordered zero = tt
  below_ordered (suc k) =
      cond_both (has (between t r) k && passes t r (Some k)) (Some k ∷ passing_below t r k) (passing_below t r k) Ordered
      (λ _. (λ y m. let z = below_start k y m in subst (Earlier (Some k)) (sym z.1) z.2, below_ordered k))
      (λ _. below_ordered k)

  -- ---- All that pass

  -- what is in the list is a start that passes
  pub passing_start : (x : Option ℕ) → Memᴰ x (passing t r) → Start t r x × (passes t r x ≡ true)
  unfolding passing
  passing_start x m =
      cond_both (passes t r None) (None ∷ passing_below t r 64) (passing_below t r 64)
      (λ l. Memᴰ x l → Start t r x × (passes t r x ≡ true))
      (λ h n. ⊎_elim (λ e. subst (λ y. Start t r y × (passes t r y ≡ true)) (sym e) (tt, h)) crossing (mathlib.Core.List.Memᴰ.cases_cons n))
      (λ _. crossing)
      m
    where
      crossing : Memᴰ x (passing_below t r 64) → Start t r x × (passes t r x ≡ true)
      crossing n = let z = below_start 64 x n in subst (λ y. Start t r y × (passes t r y ≡ true)) (sym z.1) (z.3, z.4)

  -- each start that passes is in the list
  pub passing_member : (x : Option ℕ) → Start t r x → passes t r x ≡ true → Memᴰ x (passing t r)
  unfolding passing
  passing_member None s p =
      cond_both (passes t r None) (None ∷ passing_below t r 64) (passing_below t r 64) (Memᴰ None)
      (λ _. mathlib.Core.List.Memᴰ.head refl) (λ h. absurd (both_ways _ h p))
  passing_member (Some c) s p =
      let m = below_member 64 c (has_lt 64 _ c (between_lt t sound r) s) s p in
      cond_both (passes t r None) (None ∷ passing_below t r 64) (passing_below t r 64) (Memᴰ (Some c))
      (λ _. mathlib.Core.List.Memᴰ.tail m) (λ _. m)

  -- they stand in their order
  pub passing_ordered : Ordered (passing t r)
  unfolding passing
  passing_ordered =
      cond_both (passes t r None) (None ∷ passing_below t r 64) (passing_below t r 64) Ordered
      (λ _. (λ y m. let z = below_start 64 y m in subst (Earlier None) (sym z.1) tt, below_ordered 64))
      (λ _. below_ordered 64)

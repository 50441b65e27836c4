-- Two chosen layouts of a table group alike.
use Rattle.std.proofs.Common.{◌≡◌, ℕ, ◌<◌, ◌≢◌, sym, subst, subst₂, inl, inr, ⊎_elim, arith}
use Rattle.std.proofs.lemmas.Bool.{cases_lt}
use Rattle.std.proofs.lemmas.Bool.Decides.{same_from_decides}
use Rattle.evidence.specs.Table.{Table}
use Rattle.theory.specs.Layout.{Ends}
use Rattle.theory.specs.Groups.{Trio, has_trio, Three, Agree, Rising, GroupAlike, Sooner, Chosen}
use Rattle.theory.proofs.Below.{by_smaller}
use Rattle.theory.proofs.Trios.{trio_tested, tested_trio}

-- what holds of three rising baselines whenever it holds of all sooner ones holds of each three
by_sooner : (n : ℕ) (P : Three → Type 0) → ((t : Three) → Rising n t → ((s : Three) → Rising n s → Sooner s t → P s) → P t)
    → (t : Three) → Rising n t → P t
by_sooner n P step t =
    by_smaller (λ x. (y z : ℕ) → Rising n (x, y, z) → P (x, y, z))
    (λ x least. by_smaller (λ y. (z : ℕ) → Rising n (x, y, z) → P (x, y, z))
    (λ y middle. by_smaller (λ z. Rising n (x, y, z) → P (x, y, z))
    (λ z greatest r. step (x, y, z) r (sooner x y z least middle greatest))))
    t.0 t.1 t.2
  where
    sooner : (x y z : ℕ)
        → ((u : ℕ) → u < x → (v w : ℕ) → Rising n (u, v, w) → P (u, v, w))
        → ((v : ℕ) → v < y → (w : ℕ) → Rising n (x, v, w) → P (x, v, w))
        → ((w : ℕ) → w < z → Rising n (x, y, w) → P (x, y, w))
        → (s : Three) → Rising n s → Sooner s (x, y, z) → P s
    sooner x y z least middle greatest s r (inl h) = least s.0 h s.1 s.2 r
    sooner x y z least middle greatest s r (inr (p, inl h)) =
        subst (λ u. Rising n (u, s.1, s.2) → P (u, s.1, s.2)) (sym p) (middle s.1 h s.2) r
    sooner x y z least middle greatest s r (inr (p, inr (q, h))) =
        subst₂ (λ u v. Rising n (u, v, s.2) → P (u, v, s.2)) (sym p) (sym q) (greatest s.2 h) r

-- two chosen layouts of a table group alike
pub chosen_alike : (t : Table) (e f : ℕ → Ends) → Chosen t e → Chosen t f → GroupAlike t.count e f
chosen_alike t e f ce cf =
    by_sooner t.count (Agree e f)
    (λ s r sooner. (
      cf.leads e ce.fits s r (λ u l h. let x = sooner u l h in (x.1, x.0)),
      ce.leads f cf.fits s r sooner,
    ))

-- the order of the three does not matter
turn : (e : ℕ → Ends) (i j k : ℕ) → Trio e i j k → Trio e j i k
turn e i j k x = (x.0, x.2, x.1, x.3)

turn_last : (e : ℕ → Ends) (i j k : ℕ) → Trio e i j k → Trio e i k j
turn_last e i j k x = (x.0, x.1, x.3, x.2)

agree_turn : (e f : ℕ → Ends) (i j k : ℕ) → Agree e f (i, j, k) → Agree e f (j, i, k)
agree_turn e f i j k x = (λ h. turn f i j k (x.0 (turn e j i k h)), λ h. turn e i j k (x.1 (turn f j i k h)))

agree_turn_last : (e f : ℕ → Ends) (i j k : ℕ) → Agree e f (i, j, k) → Agree e f (i, k, j)
agree_turn_last e f i j k x =
    (λ h. turn_last f i j k (x.0 (turn_last e i k j h)), λ h. turn_last e i j k (x.1 (turn_last f i k j h)))

-- layouts that group alike agree on any three different baselines
pub alike_agree : (n : ℕ) (e f : ℕ → Ends) → GroupAlike n e f → (i j k : ℕ) → i < n → j < n → k < n
    → i ≢ j → i ≢ k → j ≢ k → Agree e f (i, j, k)
alike_agree n e f alike i j k li lj lk ij ik jk =
    ⊎_elim (λ h. first_two i j li lj ik jk h) (λ h. agree_turn e f j i k (first_two j i lj li jk ik (omega arith))) (cases_lt i j)
  where
    last_two : (i j : ℕ) → i < n → j < n → i ≢ k → j ≢ k → i < j → k < j → Agree e f (i, k, j)
    last_two i j li lj ik jk h l =
        ⊎_elim
        (λ m. alike (i, k, j) (m, l, lj))
        (λ m. agree_turn e f k i j (alike (k, i, j) (omega arith, h, lj)))
        (cases_lt i k)

    first_two : (i j : ℕ) → i < n → j < n → i ≢ k → j ≢ k → i < j → Agree e f (i, j, k)
    first_two i j li lj ik jk h =
        ⊎_elim
        (λ l. alike (i, j, k) (h, l, lk))
        (λ l. agree_turn_last e f i k j (last_two i j li lj ik jk h (omega arith)))
        (cases_lt j k)

-- and the test of a common imager has the same answer for both
pub alike_trio : (n : ℕ) (e f : ℕ → Ends) → GroupAlike n e f → (i j k : ℕ) → i < n → j < n → k < n
    → i ≢ j → i ≢ k → j ≢ k → has_trio e i j k ≡ has_trio f i j k
alike_trio n e f alike i j k li lj lk ij ik jk =
    let x = alike_agree n e f alike i j k li lj lk ij ik jk in
    same_from_decides _ _ (tested_trio e i j k, trio_tested e i j k)
    (λ h. x.1 (tested_trio f i j k h), λ h. trio_tested f i j k (x.0 h))

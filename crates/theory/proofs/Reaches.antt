-- Reaching by steps of sharing goes on, goes back and stays below the count; in a layout an imager in common makes a step.
use Rattle.std.proofs.Common.{◌≡◌, ℕ, ◌<◌, Bool, true, false, cond, ◌≢◌, refl, ap, ◌∙◌, ⊎_elim, arith}
use Rattle.std.proofs.lemmas.Bool.{both_ways, cases_lt}
use Rattle.std.proofs.lemmas.Bool.Decides.{nat_tests}
use Rattle.evidence.specs.Table.{Table, Sound}
use Rattle.theory.specs.Layout.{Ends, stands, in_common, LayoutOn}
use Rattle.theory.specs.Clusters.{Reach, here, step}
use Rattle.theory.specs.Groups.{Trio}

-- an imager at both of two baselines is counted
one_counted : (a : ℕ) (d e : Ends) (s : Bool) → stands a d ≡ true → stands a e ≡ true → in_common d e ≡ cond s 1 0 → s ≡ true
one_counted a d e s p q h = grind (arith, nat_tests)

module _ (t : Table) (sound : Sound t) where
  -- what a baseline shares with is below the count
  pub shares_below : (i j : ℕ) → t.shares i j ≡ true → j < t.count
  shares_below i j s =
      ⊎_elim (λ h. h) (λ h. absurd (both_ways _ (sound.alike i j ∙ sound.within j i h) s)) (cases_lt j t.count)

  -- and so below 64
  pub shares_lt : (i j : ℕ) → t.shares i j ≡ true → j < 64
  shares_lt i j s = let few = sound.few in omega (arith, shares_below i j s)

  -- what is reached from one that is reached is reached
  pub reach_join : {i j k : ℕ} → Reach t i j → Reach t j k → Reach t i k
  reach_join a here = a
  reach_join a (step b s) = step (reach_join a b) s

  -- a baseline that is reached reaches back
  pub reach_back : {i j : ℕ} → Reach t i j → Reach t j i
  reach_back here = here
  reach_back (step {j} {k} a s) = reach_join (step here (sound.alike k j ∙ s)) (reach_back a)

  -- from a baseline below the count no number past it is reached
  pub reach_below : {i j : ℕ} → i < t.count → Reach t i j → j < t.count
  reach_below l here = l
  reach_below l (step {j} {k} a s) = shares_below j k s

  -- and so none from 64 on
  pub reach_lt : {i j : ℕ} → i < t.count → Reach t i j → j < 64
  reach_lt l a = let few = sound.few in omega (arith, reach_below l a)

  -- a baseline that shares with none reaches only itself
  pub reach_alone : {i j : ℕ} → ((k : ℕ) → t.shares i k ≡ false) → Reach t i j → j ≡ i
  reach_alone lone here = refl
  reach_alone lone (step {j} {k} a s) =
      absurd (both_ways _ (ap (λ x. t.shares x k) (reach_alone lone a) ∙ lone k) s)

  -- two baselines of a layout with an imager in common share
  pub common_shares : {among : ℕ → Type 0} {e : ℕ → Ends} → LayoutOn t among e
      → (i j a : ℕ) → among i → among j → i ≢ j → stands a (e i) ≡ true → stands a (e j) ≡ true → t.shares i j ≡ true
  common_shares {e} fits i j a p q ne si sj = one_counted a (e i) (e j) (t.shares i j) si sj (fits.meets i j p q ne)

  -- three different baselines of a layout with an imager in common are of one cluster
  pub trio_reach : {among : ℕ → Type 0} {e : ℕ → Ends} → LayoutOn t among e
      → (i j k : ℕ) → among i → among j → among k → i ≢ j → i ≢ k → Trio e i j k → Reach t i j × Reach t i k
  trio_reach fits i j k p q r ne ne' trio = (
    step here (common_shares fits i j trio.0 p q ne trio.1 trio.2),
    step here (common_shares fits i k trio.0 p r ne' trio.1 trio.3),
  )

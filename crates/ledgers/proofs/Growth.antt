-- One baseline more, which shares with none.
use Rattle.std.proofs.Common.{◌≡◌, ℕ, ◌+◌, ◌<◌, ◌≤◌, Bool, Ok, Err, Result, IfOk, IfErr, sym, refl, arith}
use Rattle.evidence.specs.declared.refusal.Refusal.{Refusal}
use Rattle.evidence.specs.declared.refusal.Refusal.TheVariants.{Full}
use Rattle.evidence.specs.Table.{Table, Sound}
use Rattle.evidence.specs.Pairs.{pairs}
use Rattle.evidence.proofs.PairCounts.{pairs_grow}

module _ (shares : ℕ → ℕ → Bool) where
  abbrev of : ℕ → Table
  of n = record { count = n; shares = shares }

  more : (n : ℕ) → n < 64 → Sound (of n) → Sound (of (n + 1))
  more n h t = record { few = omega arith; alike = t.alike; apart = t.apart; within = λ i j l. t.within i j (omega arith) }

  -- the table stays sound, and has as many sharing pairs
  pub grown : (n m : ℕ) (r : Result ℕ Refusal)
      → IfOk r (λ k. (k < 64) × (k ≡ n) × (m ≡ k + 1)) → IfErr r (λ e. (e ≡ Full) × (64 ≤ n) × (m ≡ n))
      → Sound (of n) → Sound (of m) × (pairs (of n) ≡ pairs (of m))
  grown n m (Ok k) ok full t =
      let e : m ≡ n + 1 = omega (arith, ok.1, ok.2) in
      rw e (more n (omega (arith, ok.0, ok.1)) t, sym (pairs_grow (of n) (of (n + 1)) t refl (λ a b. refl)))
  grown n m (Err x) ok full t = rw full.2 (t, refl)

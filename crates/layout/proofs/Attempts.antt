-- A start passes just where the near stars that it hands down are a system of stars.
use Rattle.std.proofs.Common.{◌≡◌, ℕ, ◌^◌, ◌<◌, true, ◌↔◌, Option, sym, arith}
use Rattle.evidence.specs.Table.{Table, Sound}
use Rattle.theory.specs.Clusters.{Reach, here}
use Rattle.theory.specs.Stars.{star, Stars}
use Rattle.theory.specs.Search.{first, Handed, start, hand, passes}
use Rattle.theory.proofs.Spread.{handed_lt, handed_star}
use Rattle.theory.proofs.Verify.{verified_stars, stars_verified}
use Rattle.theory.proofs.Firsts.{first_lt}
use Rattle.theory.proofs.Cluster.{attempt_start, pass_stars, stars_pass}

-- the root has the first star
handed_start : {t : Table} {r a : ℕ} {near : ℕ → ℕ} {v : ℕ} → Handed t r a near v → near r ≡ a
handed_start (start k) = k
handed_start (hand h share k) = handed_start h

module _ (t : Table) (sound : Sound t) (r : ℕ) (below : r < t.count) (cross : Option ℕ) (near : ℕ → ℕ)
    (handed : (v : ℕ) → Reach t r v → Handed t r (first t r cross) near v) where
  -- the near stars are sets of baselines
  pub near_small : (v : ℕ) → Reach t r v → near v < 2 ^ 64
  near_small v c = let few = sound.few in handed_lt sound (first_lt t sound r cross (omega arith)) v (handed v c)

  -- the root has the first star
  pub near_first : near r ≡ first t r cross
  near_first = handed_start (handed r here)

  -- the start passes just where they are a system of stars
  pub passes_tells : (passes t r cross ≡ true) ↔ Stars t (Reach t r) (star t near)
  passes_tells = (
    λ h.
        let good = pass_stars t sound r below cross h in
        verified_stars t sound r below near near_small
        (stars_verified t sound r below near good
        (λ v c. (handed_star sound good true here (sym (attempt_start t sound r below cross)) v (handed v c)).1)),
    λ good. stars_pass t sound r below good true cross near_first,
  )

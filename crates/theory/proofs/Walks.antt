-- The walk from a baseline meets its cluster.
use Rattle.std.proofs.Common.{◌≡◌, ℕ, zero, suc, ◌+◌, ◌^◌, ◌<◌, true, eqb, ◌⊎◌, ◌↔◌, List, length, sym, ◌∙◌, subst, inl, inr, ⊎_elim, arith}
use lib.Bits.{or_lt}
use Rattle.std.proofs.lemmas.Bool.{both_ways, cases_Bool, eqb-true, eqb-false, cond_both, or_cases, or_left}
use Rattle.bitset.specs.Sets.{has, single, lowest}
use Rattle.bitset.proofs.Members.{has_or, has_single, single_has, has_none, single_lt}
use Rattle.evidence.specs.Table.{Table, Sound}
use Rattle.theory.specs.Clusters.{Reach, here, step}
use Rattle.theory.specs.Walks.{Walk, Steps, none, more, fringe, meet, walk_on, walk, cluster}
use Rattle.theory.proofs.Reaches.{shares_below, shares_lt}
use Rattle.theory.proofs.Counts.{how_many, how_many_le, how_many_put}
use Rattle.theory.proofs.Fringes.{fringe_next, fringe_empty}

module _ (t : Table) (sound : Sound t) (r : ℕ) (below : r < t.count) where
  -- ---- What steps have met

  -- the start is met
  steps_start : {steps : List (ℕ × ℕ)} {met : ℕ} → Steps t r steps met → has met r ≡ true
  steps_start none = single_has r
  steps_start (more s m f shared) = has_or _ _ r ∙ or_left _ _ (steps_start s)

  -- what is met is reached
  pub steps_reach : {steps : List (ℕ × ℕ)} {met : ℕ} → Steps t r steps met → (v : ℕ) → has met v ≡ true → Reach t r v
  steps_reach none v h = subst (Reach t r) (eqb-true r v (sym (has_single r v) ∙ h)) here
  steps_reach (more {met} {p} {v = w} s m f shared) v h =
      ⊎_elim
      (λ k. steps_reach s v k)
      (λ k. subst (Reach t r) (eqb-true w v (sym (has_single w v) ∙ k)) (step (steps_reach s p m) shared))
      (or_cases _ _ (sym (has_or met (single w) v) ∙ h))

  -- only numbers below 64 are met
  steps_lt : {steps : List (ℕ × ℕ)} {met : ℕ} → Steps t r steps met → met < 2 ^ 64
  steps_lt none = let few = sound.few in single_lt 64 r (omega arith)
  steps_lt (more {p} {v} s m f shared) = or_lt 64 _ _ (steps_lt s) (single_lt 64 v (shares_lt t sound p v shared))

  -- each step meets one more
  steps_count : {steps : List (ℕ × ℕ)} {met : ℕ} → Steps t r steps met → length steps < how_many (has met) t.count
  steps_count none = omega (arith, how_many_put 0 r t.count below (has_none r))
  steps_count (more {met} {p} {v} s m f shared) =
      omega (arith, steps_count s, how_many_put met v t.count (shares_below t sound p v shared) f)

  -- so there are fewer steps than baselines
  pub steps_few : {steps : List (ℕ × ℕ)} {met : ℕ} → Steps t r steps met → length steps < t.count
  steps_few {met} s = omega (arith, steps_count s, how_many_le (has met) t.count)

  -- ---- The walk

  -- steps that are walked on are steps
  walk_on_steps : (k : ℕ) (w : Walk) → Steps t r w.steps w.met → Steps t r (walk_on t k w).steps (walk_on t k w).met
  unfolding walk_on meet
  walk_on_steps zero w s = s
  walk_on_steps (suc k) w s =
      cond_both (eqb (fringe t w.met) 0) w (walk_on t k (meet t w (lowest (fringe t w.met)))) (λ x. Steps t r x.steps x.met)
      (λ _. s)
      (λ e. let n = fringe_next t sound w.met (eqb-false _ _ e) in walk_on_steps k _ (more s n.0 n.1 n.2))

  -- the walk is made of steps
  pub walk_steps : Steps t r (walk t r).steps (walk t r).met
  unfolding walk
  walk_steps = walk_on_steps t.count _ none

  -- a walk goes on until its fringe is empty, or takes all the steps that it may
  walk_on_length : (k : ℕ) (w : Walk) → (fringe t (walk_on t k w).met ≡ 0) ⊎ (length (walk_on t k w).steps ≡ k + length w.steps)
  unfolding walk_on meet
  walk_on_length zero w = inr (omega arith)
  walk_on_length (suc k) w =
      cond_both (eqb (fringe t w.met) 0) w (walk_on t k (meet t w (lowest (fringe t w.met))))
      (λ x. (fringe t x.met ≡ 0) ⊎ (length x.steps ≡ suc k + length w.steps))
      (λ e. inl (eqb-true _ _ e))
      (λ _. ⊎_elim inl (λ e. inr (omega arith)) (walk_on_length k _))

  -- there are not so many steps to take: the fringe of the walk is empty
  walk_ends : fringe t (cluster t r) ≡ 0
  unfolding walk
  walk_ends = ⊎_elim (λ z. z) (λ e. absurd (omega (arith, steps_few walk_steps))) (walk_on_length t.count _)

  -- what is reached is met
  reach_met : {v : ℕ} → Reach t r v → has (cluster t r) v ≡ true
  reach_met here = steps_start walk_steps
  reach_met (step {j} {k} a s) = fringe_empty t sound (cluster t r) j k walk_ends (reach_met a) s

  -- the walk meets the cluster, and nothing else
  pub walk_cluster : (v : ℕ) → (has (cluster t r) v ≡ true) ↔ Reach t r v
  walk_cluster v = (steps_reach walk_steps v, reach_met)

  -- a cluster is a set of numbers below 64
  pub cluster_lt : cluster t r < 2 ^ 64
  cluster_lt = steps_lt walk_steps

  -- a baseline is reached or it is not
  pub reach_cases : (v : ℕ) → Reach t r v ⊎ (Reach t r v → ⊥)
  reach_cases v =
      ⊎_elim
      (λ h. inl ((walk_cluster v).0 h))
      (λ h. inr (λ a. both_ways _ h (reach_met a)))
      (cases_Bool (has (cluster t r) v))

-- Two systems of stars on the cluster of r with the same first star have the same threes.
use Rattle.std.proofs.Common.{◌≡◌, ℕ, Bool, not, sym, ap, ◌∙◌}
use Rattle.evidence.specs.Table.{Table, Sound}
use Rattle.theory.specs.Clusters.{Reach, here, step}
use Rattle.theory.specs.Stars.{far, Stars, star_trio}
use Rattle.theory.specs.Search.{handed}
use Rattle.theory.proofs.StarFacts.{trio_side}
use Rattle.theory.proofs.Spread.{hand_star}

module _ {t : Table} (sound : Sound t) {r : ℕ} {one two : ℕ → Bool → ℕ}
    (good : Stars t (Reach t r) one) (fine : Stars t (Reach t r) two) (q p : Bool) (same : one r q ≡ two r p) where
  -- at each baseline of the cluster the systems have a star in common
  same_star : (v : ℕ) → Reach t r v → (a b : Bool) × (one v a ≡ two v b)
  same_star v here = (q, p, same)
  same_star v (step {j} c share) =
      let x = same_star j c in
      let y = (hand_star sound good j v x.0 c share).1 in
      let z = (hand_star sound fine j v x.1 c share).1 in
      (y.0, z.0, sym y.1 ∙ ap (λ a. handed t j a v) x.2 ∙ z.1)

  -- so they have the same threes there
  pub same_trio : (i j k : ℕ) → Reach t r i → star_trio one i j k ≡ star_trio two i j k
  same_trio i j k c =
      let x = same_star i c in
      let e : one i (not x.0) ≡ two i (not x.1) = sym (good.other i x.0 c) ∙ ap (far t i) x.2 ∙ fine.other i x.1 c in
      trio_side one i j k x.0 ∙ simp (x.2, e) (sym (trio_side two i j k x.1))

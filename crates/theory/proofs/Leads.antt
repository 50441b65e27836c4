-- The layout of settled clusters leads every other layout.
use Rattle.std.proofs.Common.{◌≡◌, ℕ, ◌<◌, Bool, true, ◌⊎◌, ◌↔◌, Option, sym, refl, ap, ◌∙◌, subst, inl, inr, ⊎_elim, arith}
use mathlib.Core.List.Memᴰ
use mathlib.Core.List.{Memᴰ}
use Rattle.std.proofs.lemmas.Bool.{both_ways, cases_order}
use Rattle.evidence.specs.Table.{Table, Sound}
use Rattle.theory.specs.Layout.{Ends, Layout}
use Rattle.theory.specs.Groups.{Three, Trio, Agree, Rising, Sooner}
use Rattle.theory.specs.Clusters.{Reach, here}
use Rattle.theory.specs.Stars.{star, star_trio}
use Rattle.theory.specs.Walks.{root}
use Rattle.theory.specs.Search.{attempt, passing, Settled}
use Rattle.theory.specs.Imagers.{layout_of}
use Rattle.theory.proofs.Reaches.{reach_below, trio_reach}
use Rattle.theory.proofs.Roots.{root_below}
use Rattle.theory.proofs.Whole.{cluster_layout}
use Rattle.theory.proofs.Prefer.{Preferred}
use Rattle.theory.proofs.Settling.{from_root, settled_trio, layout_start, start_preferred, first_member, groups}

-- two threes have the same numbers, or one is sooner
sooner_cases : (s t : Three) → Sooner s t ⊎ (((s.0 ≡ t.0) × (s.1 ≡ t.1) × (s.2 ≡ t.2)) ⊎ Sooner t s)
sooner_cases s t =
    ⊎_elim
    (λ e. ⊎_elim
    (λ f. ⊎_elim
    (λ g. inr (inl (e, f, g)))
    (⊎_elim (λ l. inl (inr (e, inr (f, l)))) (λ l. inr (inr (inr (sym e, inr (sym f, l))))))
    (cases_order s.2 t.2))
    (⊎_elim (λ l. inl (inr (e, inl l))) (λ l. inr (inr (inr (sym e, inl l)))))
    (cases_order s.1 t.1))
    (⊎_elim (λ l. inl (inl l)) (λ l. inr (inr (inl l))))
    (cases_order s.0 t.0)

-- threes with the same numbers
trio_at : (st : ℕ → Bool → ℕ) (i j k : ℕ) (s : Three) → (i ≡ s.0) × (j ≡ s.1) × (k ≡ s.2) → star_trio st i j k ≡ star_trio st s.0 s.1 s.2
trio_at st i j k s e = let p = e.0 in let q = e.1 in let u = e.2 in rw (p, q, u)

module _ (t : Table) (sound : Sound t) (near : ℕ → ℕ) (doubtful : ℕ → Bool)
    (settled : (v : ℕ) → v < t.count → Settled t (root t v) near (doubtful v)) where
  module _ (f : ℕ → Ends) (fits : Layout t f) (i j k : ℕ) (ij : i < j) (jk : j < k) (kn : k < t.count)
      (sooner : (s : Three) → Rising t.count s → Sooner s (i, j, k) → Agree (layout_of t near) f s) (trio : Trio f i j k) where
    abbrev il : i < t.count
    il = omega arith

    abbrev jl : j < t.count
    jl = omega arith

    abbrev r : ℕ
    r = root t i

    abbrev s : Settled t r near (doubtful i)
    s = settled i il

    -- the start of f on the cluster of i
    abbrev y : (y : Option ℕ) × Memᴰ y (passing t r)
        × ((a b c : ℕ) → Reach t r a → Reach t r b → Reach t r c → Trio f a b c ↔ (star_trio (star t (attempt t r y)) a b c ≡ true))
    y = layout_start t sound i il (cluster_layout t sound fits i il)

    abbrev ci : Reach t r i
    ci = from_root t sound i il i here

    reached : Reach t i j × Reach t i k
    reached = trio_reach t sound fits i j k il jl kn (λ e. omega arith) (λ e. omega arith) trio

    theirs : star_trio (star t (attempt t r y.0)) i j k ≡ true
    theirs = (y.2 i j k ci (from_root t sound i il j reached.0) (from_root t sound i il k reached.1)).0 trio

    ours_from : star_trio (star t (attempt t r s.start)) i j k ≡ true → Trio (layout_of t near) i j k
    ours_from h =
        (groups t sound near doubtful settled i j k il jl kn).1
        (settled_trio t sound i il s s.start (first_member t sound i il s.start s.others s.preferred) refl i j k ci ∙ h)

    -- where f has another start, ours is preferred
    preferred_leads : Memᴰ y.0 s.others → Trio (layout_of t near) i j k
    preferred_leads m = ⊎_elim earlier (⊎_elim same later) (sooner_cases (i, j, k) p.three)
      where
        p : Preferred t r (star t (attempt t r s.start)) (star t (attempt t r y.0))
        p = start_preferred t sound i il s.start s.others s.preferred y.0 m

        earlier : Sooner (i, j, k) p.three → Trio (layout_of t near) i j k
        earlier h =
            ours_from (p.agree i j k ci (from_root t sound i il j reached.0) (from_root t sound i il k reached.1) ij jk h ∙ theirs)

        same : (i ≡ p.three.0) × (j ≡ p.three.1) × (k ≡ p.three.2) → Trio (layout_of t near) i j k
        same e =
            ours_from (trio_at (star t (attempt t r s.start)) i j k p.three e ∙ p.ours)

        later : Sooner p.three (i, j, k) → Trio (layout_of t near) i j k
        later h =
            let three = p.three in
            let bound = reach_below t sound (root_below t sound i il) p.in_cluster.2 in
            let low : three.0 < t.count = omega (arith, p.rising.0, p.rising.1, bound) in
            let mid : three.1 < t.count = omega (arith, p.rising.1, bound) in
            let ours = (groups t sound near doubtful settled three.0 three.1 three.2 low mid bound).1
            (settled_trio t sound i il s s.start (first_member t sound i il s.start s.others s.preferred) refl three.0 three.1 three.2 p.in_cluster.0 ∙ p.ours) in
            let both = (sooner three (p.rising.0, p.rising.1, bound) h).0 ours in
            absurd (both_ways _ p.theirs ((y.2 three.0 three.1 three.2 p.in_cluster.0 p.in_cluster.1 p.in_cluster.2).0 both))

    pub leads_here : Trio (layout_of t near) i j k
    leads_here =
        ⊎_elim
        (λ e. ours_from (ap (λ x. star_trio (star t (attempt t r x)) i j k) (sym e) ∙ theirs))
        preferred_leads
        (Memᴰ.cases_cons (subst (Memᴰ y.0) s.preferred y.1))

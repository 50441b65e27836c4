-- An answer is told by what it says of the baselines below the count.
use Rattle.std.proofs.Common.{◌≡◌, ℕ, ◌<◌, Bool, ◌≢◌, ◌↔◌, sym, ap, ◌∙◌, subst, ap₂, subst₂, arith}
use Rattle.evidence.specs.Table.{Table}
use Rattle.theory.specs.Layout.{Ends, stands, in_common, Layout}
use Rattle.theory.specs.Groups.{Three, Trio, Rising, Leads}
use Rattle.theory.specs.Numbers.{Ahead, Numbered}
use Rattle.theory.specs.Placed.{Solved}
use Rattle.theory.proofs.Order.{same_list}

module _ (t : Table) {e f : ℕ → Ends} (same : (i : ℕ) → i < t.count → e i ≡ f i) where
  layout_same : Layout t e → Layout t f
  layout_same fits = record {
    different = λ i l. subst (λ (d : Ends). d.0 ≢ d.1) (same i l) (fits.different i l);
    meets = λ i j l k ne. sym (ap₂ in_common (same i l) (same j k)) ∙ fits.meets i j l k ne;
  }

  trio_same : (i j k : ℕ) → i < t.count → j < t.count → k < t.count → Trio e i j k ↔ Trio f i j k
  trio_same i j k il jl kl = (
    (λ x. let a = x.0 in
        (a, ap (stands a) (sym (same i il)) ∙ x.1, ap (stands a) (sym (same j jl)) ∙ x.2, ap (stands a) (sym (same k kl)) ∙ x.3)),
    (λ x. let a = x.0 in
        (a, ap (stands a) (same i il) ∙ x.1, ap (stands a) (same j jl) ∙ x.2, ap (stands a) (same k kl) ∙ x.3)),
  )

  three_same : (s : Three) → Rising t.count s → Trio e s.0 s.1 s.2 ↔ Trio f s.0 s.1 s.2
  three_same s r = trio_same s.0 s.1 s.2 (omega (arith, r)) (omega (arith, r)) r.2

  leads_same : (h : ℕ → Ends) → Leads t.count e h → Leads t.count f h
  leads_same h leads s r sooner trio =
      (three_same s r).0
      (leads s r
      (λ q o before. let x = three_same q o in let a = sooner q o before in ((λ y. a.0 (x.0 y)), (λ y. x.1 (a.1 y))))
      trio)

  numbered_same : (m : ℕ) → Numbered t.count e m → Numbered t.count f m
  numbered_same m num = record {
    told = λ i l. subst (λ (d : Ends). (d.0 < d.1) × (d.1 < m)) (same i l) (num.told i l);
    used = λ a l. let u = num.used a l in (u.0, u.1, ap (stands a) (sym (same u.0 u.1)) ∙ u.2);
    order = λ a b l k.
        let list = λ (c : ℕ). same_list t.count e f c c (λ i h. ap (stands c) (same i h)) in
        subst₂ Ahead (list a) (list b) (num.order a b l k);
  }

  pub solved_same : {m : ℕ} {d g : ℕ → Bool} → ((i : ℕ) → i < t.count → d i ≡ g i) → Solved t m e d → Solved t m f g
  solved_same {m} doubt s = record {
    chosen = record { fits = layout_same s.chosen.fits; leads = λ h fits. leads_same h (s.chosen.leads h fits) };
    numbered = numbered_same m s.numbered;
    doubt = λ i l. ((λ x. (s.doubt i l).0 (doubt i l ∙ x)), (λ x. sym (doubt i l) ∙ (s.doubt i l).1 x));
  }

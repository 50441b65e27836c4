-- A settled cluster is doubtful exactly when two starts pass.
use Rattle.std.proofs.Common.{◌≡◌, ℕ, ◌<◌, Bool, true, not, ◌≢◌, ◌↔◌, List, [], ◌∷◌, Option, sym, refl, ap, ◌∙◌, subst, ⊎_elim, arith}
use mathlib.Core.List.Memᴰ
use mathlib.Core.List.{Memᴰ}
use Rattle.std.proofs.lemmas.Bool.{both_ways}
use Rattle.evidence.specs.Table.{Table, Sound}
use Rattle.theory.specs.Clusters.{Reach, Doubtful}
use Rattle.theory.specs.Stars.{Stars, star, star_trio}
use Rattle.theory.specs.Walks.{root}
use Rattle.theory.specs.Search.{attempt, passing, is_nil, Settled}
use Rattle.theory.proofs.Roots.{root_below}
use Rattle.theory.proofs.Prefer.{Preferred}
use Rattle.theory.proofs.Cluster.{member_stars}
use Rattle.theory.proofs.Names.{named, named_fits, named_trio}
use Rattle.theory.proofs.Settling.{fewer, from_root, to_root, layout_start, start_preferred, first_member}

module _ (t : Table) (sound : Sound t) (near : ℕ → ℕ) (doubtful : ℕ → Bool)
    (settled : (v : ℕ) → v < t.count → Settled t (root t v) near (doubtful v)) where
  module _ (i : ℕ) (l : i < t.count) where
    abbrev ri : ℕ
    ri = root t i

    abbrev si : Settled t ri near (doubtful i)
    si = settled i l

    -- another start that passes makes a second layout
    second_layout : (others : List (Option ℕ)) → not (is_nil others) ≡ true → passing t ri ≡ si.start ∷ others → Doubtful t i
    second_layout [] some e = absurd (both_ways _ refl some)
    second_layout (y ∷ rest) some e = record {
      one = named t (star t (attempt t ri si.start));
      two = named t (star t (attempt t ri y));
      fits_one = fewer (from_root t sound i l) (named_fits sound first_stars);
      fits_two = fewer (from_root t sound i l) (named_fits sound other_stars);
      three = p.three;
      in_cluster = (to_root t sound i l _ p.in_cluster.0, to_root t sound i l _ p.in_cluster.1, to_root t sound i l _ p.in_cluster.2);
      apart = (first_apart, second_apart, third_apart);
      disagree = λ agree.
          both_ways _ p.theirs
          ((named_trio sound other_stars _ _ _ p.in_cluster.0 p.in_cluster.1 p.in_cluster.2 first_apart third_apart).0
          (agree.0 ((named_trio sound first_stars _ _ _ p.in_cluster.0 p.in_cluster.1 p.in_cluster.2 first_apart third_apart).1 p.ours)));
    }
      where
        p : Preferred t ri (star t (attempt t ri si.start)) (star t (attempt t ri y))
        p = start_preferred t sound i l si.start (y ∷ rest) e y (Memᴰ.head refl)

        first_stars : Stars t (Reach t ri) (star t (attempt t ri si.start))
        first_stars = member_stars t sound ri (root_below t sound i l) si.start (first_member t sound i l si.start (y ∷ rest) e)

        other_stars : Stars t (Reach t ri) (star t (attempt t ri y))
        other_stars =
            member_stars t sound ri (root_below t sound i l) y
            (subst (Memᴰ y) (sym e) (Memᴰ.tail (Memᴰ.head refl)))

        first_apart : p.three.0 ≢ p.three.1
        first_apart q = omega (arith, p.rising.0)

        second_apart : p.three.1 ≢ p.three.2
        second_apart q = omega (arith, p.rising.1)

        third_apart : p.three.0 ≢ p.three.2
        third_apart q = omega (arith, p.rising.0, p.rising.1)

    -- two layouts that disagree have different starts
    second_start : Doubtful t i → (others : List (Option ℕ)) → passing t ri ≡ si.start ∷ others → not (is_nil others) ≡ true
    second_start d (y ∷ rest) e = refl
    second_start d [] e =
        let one = layout_start t sound i l d.fits_one in
        let two = layout_start t sound i l d.fits_two in
        let ca = from_root t sound i l _ d.in_cluster.0 in
        let cb = from_root t sound i l _ d.in_cluster.1 in
        let cd = from_root t sound i l _ d.in_cluster.2 in
        let same = ap (λ x. star_trio (star t (attempt t ri x)) d.three.0 d.three.1 d.three.2) (only one.0 one.1 ∙ sym (only two.0 two.1)) in
        absurd (d.disagree (
          (λ h. (two.2 _ _ _ ca cb cd).1 (sym same ∙ (one.2 _ _ _ ca cb cd).0 h)),
          (λ h. (one.2 _ _ _ ca cb cd).1 (same ∙ (two.2 _ _ _ ca cb cd).0 h)),
        ))
      where
        only : (y : Option ℕ) → Memᴰ y (passing t ri) → y ≡ si.start
        only y m = ⊎_elim (λ q. q) (λ n. absurd (Memᴰ.not-nil n)) (Memᴰ.cases_cons (subst (Memᴰ y) e m))

    pub doubt_tells : (doubtful i ≡ true) ↔ Doubtful t i
    doubt_tells = (
      (λ h. second_layout si.others (sym si.doubt ∙ h) si.preferred),
      (λ d. si.doubt ∙ second_start d si.others si.preferred),
    )

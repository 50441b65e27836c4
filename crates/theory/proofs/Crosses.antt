-- Of the baselines that share with two that share, at most one is not in the star that these have in common: the cross.
use Rattle.std.proofs.Common.{◌≡◌, ℕ, Bool, true, false, not, ◌⊎◌, sym, ap, ◌∙◌, inl, inr, ⊎_elim}
use Rattle.std.proofs.lemmas.Bool.{cases_Bool, cases_eq}
use Rattle.bitset.specs.Sets.{has}
use Rattle.evidence.specs.Table.{Table, Sound}
use Rattle.theory.specs.Stars.{Stars}
use Rattle.theory.proofs.Ends.{one_or_other}
use Rattle.theory.proofs.StarFacts.{shares_apart, star_self, star_meet, star_rest, star_same, shares_star}

-- x shares with r and s and is not in the star a that they have in common
abbrev pub Crosses : Table → ℕ → ℕ → ℕ → ℕ → Type 0
Crosses t r s a x = (t.shares r x ≡ true) × (t.shares s x ≡ true) × (has a x ≡ false)

module _ {t : Table} (sound : Sound t) {C : ℕ → Type 0} {st : ℕ → Bool → ℕ} (good : Stars t C st)
    (r s : ℕ) (q : Bool) (c : C r) (share : t.shares r s ≡ true) (common : has (st r q) s ≡ true) where
  -- s is in the cluster of r
  in_cluster : C s
  in_cluster = good.inside r q s c common

  -- the side of s with the common star
  side : Bool
  side = (good.along r q s c common).0

  side_is : st r q ≡ st s side
  unfolding side
  side_is = (good.along r q s c common).1

  -- the cross is in the other star of r and in that of s
  cross_r : (x : ℕ) → Crosses t r s (st r q) x → has (st r (not q)) x ≡ true
  cross_r x h = star_rest sound good r q x c h.0 h.2

  cross_s : (x : ℕ) → Crosses t r s (st r q) x → has (st s (not side)) x ≡ true
  cross_s x h = star_rest sound good s side x in_cluster h.1 (ap (λ a. has a x) (sym side_is) ∙ h.2)

  -- these are different stars
  others_apart : st r (not q) ≡ st s (not side) → ⊥
  others_apart e =
      shares_apart sound r s share
      (star_meet sound good r q s c common (ap (λ a. has a s) e ∙ star_self sound good s (not side) in_cluster))

  -- there is at most one cross
  pub cross_one : (x y : ℕ) → Crosses t r s (st r q) x → Crosses t r s (st r q) y → x ≡ y
  cross_one x y h k =
      let same = star_same sound good r s (not q) (not side) x y c in_cluster in
      ⊎_elim
      (λ e. e)
      (λ ne. absurd (others_apart (same ne (cross_r x h) (cross_r y k) (cross_s x h) (cross_s y k))))
      (cases_eq x y)

  -- what is in the common star, and is not r or s, is not in their other stars
  not_other_r : (y : ℕ) → t.shares r y ≡ true → has (st r q) y ≡ true → has (st r (not q)) y ≡ true → ⊥
  not_other_r y h k l = shares_apart sound r y h (star_meet sound good r q y c k l)

  not_other_s : (y : ℕ) → t.shares s y ≡ true → has (st r q) y ≡ true → has (st s (not side)) y ≡ true → ⊥
  not_other_s y h k l = shares_apart sound s y h (star_meet sound good s side y in_cluster (ap (λ a. has a y) (sym side_is) ∙ k) l)

  -- each star of the cross is the other star of r or that of s
  cross_stars : (x y : ℕ) → Crosses t r s (st r q) x → (a : Bool) → has (st x a) y ≡ true
      → (has (st r (not q)) y ≡ true) ⊎ (has (st s (not side)) y ≡ true)
  cross_stars x y h a k =
      let b = good.along r (not q) x c (cross_r x h) in
      let d = good.along s (not side) x in_cluster (cross_s x h) in
      let clash : d.0 ≡ b.0 → ⊥ = λ f. others_apart (b.1 ∙ ap (st x) (sym f) ∙ sym d.1) in
      let differ : d.0 ≡ not b.0 = ⊎_elim (λ f. absurd (clash f)) (λ f. f) (one_or_other d.0 b.0) in
      ⊎_elim
      (λ e. inl (ap (λ z. has z y) (b.1 ∙ ap (st x) (sym e)) ∙ k))
      (λ e. inr (ap (λ z. has z y) (d.1 ∙ ap (st x) (differ ∙ sym e)) ∙ k))
      (one_or_other a b.0)

  -- the cross shares with no other baseline that shares with both
  pub cross_alone : (x y : ℕ) → Crosses t r s (st r q) x → t.shares r y ≡ true → t.shares s y ≡ true → t.shares x y ≡ true → ⊥
  cross_alone x y h ry sy xy = ⊎_elim there (λ k. shares_apart sound x y xy (cross_one x y h (ry, sy, k))) (cases_Bool (has (st r q) y))
    where
      there : has (st r q) y ≡ true → ⊥
      there k =
          let z = shares_star sound good x y (good.inside r (not q) x c (cross_r x h)) xy in
          ⊎_elim (not_other_r y ry k) (not_other_s y sy k) (cross_stars x y h z.0 z.1)

-- The clusters are settled one after the other, each from its root.
use Rattle.std.proofs.Common.{◌≡◌, ℕ, ◌+◌, ◌^◌, ◌<◌, ◌≤◌, Bool, true, false, cond, not, ◌&&◌, ◌||◌, ◌↔◌, [], sym, ap, ◌∙◌, subst, ⊎_elim, arith}
use Rattle.std.proofs.lemmas.Bool.{or_cases, or_left, or_right, or_parts, both_ways, cases_lt, cases_eq, false_from_ne_true}
use Rattle.std.proofs.lemmas.Bool.Decides.{nat_tests}
use Rattle.bitset.specs.Sets.{has}
use Rattle.bitset.proofs.Members.{has_none}
use Rattle.evidence.specs.Table.{Table, Sound}
use Rattle.theory.specs.Clusters.{Reach, here}
use Rattle.theory.specs.Placed.{Clash}
use Rattle.theory.specs.Stars.{far, star, Stars}
use Rattle.theory.specs.Walks.{root}
use Rattle.theory.specs.Search.{passing, Settled}
use Rattle.theory.proofs.Roots.{root_least, root_below, root_same, root_root, same_root_reach}
use Rattle.theory.proofs.Solves.{unsettled_clash}
use Rattle.layout.specs.declared.clusters.Clusters.{Clusters}
use Rattle.layout.specs.declared.rows.Rows.{Rows}
use Rattle.layout.specs.declared.walk.Walk.{Walk}
use Rattle.layout.specs.Answered.{Settling}
use Rattle.layout.specs.Tables.{bits_at}
use Rattle.layout.specs.Told.{told}
use Rattle.layout.proofs.Steps.{walked_reach}

-- ---- near stars that are equal on a cluster settle it alike

module _ (t : Table) (r : ℕ) (near near' : ℕ → ℕ) (same : (v : ℕ) → Reach t r v → near' v ≡ near v) where
  -- the stars of a baseline are those it had
  star_alike : (v : ℕ) (s : Bool) → Reach t r v → star t near' v s ≡ star t near v s
  star_alike v s c = ap (λ a. cond s a (far t v a)) (same v c)

  -- so they are a system of stars, if they were one
  stars_alike : Stars t (Reach t r) (star t near) → Stars t (Reach t r) (star t near')
  stars_alike good = record {
    other = λ v s c. ap (far t v) (star_alike v s c) ∙ good.other v s c ∙ sym (star_alike v (not s) c);
    along = λ v s w c h.
        let k = ap (λ a. has a w) (sym (star_alike v s c)) ∙ h in
        let x = good.along v s w c k in
        (x.0, star_alike v s c ∙ x.1 ∙ sym (star_alike w x.0 (good.inside v s w c k)));
    inside = λ v s w c h. good.inside v s w c (ap (λ a. has a w) (sym (star_alike v s c)) ∙ h);
    small = λ v s c. subst (λ a. a < 2 ^ 64) (sym (star_alike v s c)) (good.small v s c);
  }

  -- and they settle the cluster as they did
  pub settled_alike : {doubtful : Bool} → Settled t r near doubtful → Settled t r near' doubtful
  settled_alike s = record {
    start = s.start;
    others = s.others;
    preferred = s.preferred;
    stars = stars_alike s.stars;
    begins = same r here ∙ s.begins;
    doubt = s.doubt;
  }

-- ---- from root to root

-- whether a baseline is doubtful: one of the new cluster, one of an old cluster, one of none
new_doubt : (was d met : Bool) → was ≡ false → met ≡ true → (was || (d && met)) ≡ d
new_doubt was d met h k = grind (arith, nat_tests)

old_doubt : (was d met : Bool) → met ≡ false → (was || (d && met)) ≡ was
old_doubt was d met h = grind (arith, nat_tests)

none_doubt : (was d met : Bool) → was ≡ false → met ≡ false → (was || (d && met)) ≡ false
none_doubt was d met h k = grind (arith, nat_tests)

-- none is settled
pub settling_none : (t : Table) (x : Clusters) → x.settled.bits ≡ 0 → x.doubtful.bits ≡ 0 → Settling t x 0
settling_none t x e f = record {
  which = λ v _. (λ h. absurd (both_ways _ (ap (λ m. has m v) e ∙ has_none v) h), λ h. absurd (omega arith));
  settled = λ v _ h. absurd (omega arith);
  certain = λ v _. ap (λ m. has m v) f ∙ has_none v;
}

module _ (t : Table) (sound : Sound t) where
  -- the root of a baseline is at most that baseline
  root_le : (v : ℕ) → v < t.count → root t v ≤ v
  root_le v l = root_least t sound v l v here

  -- r is no root
  pub settling_skip : (x : Clusters) (r : ℕ) → r < t.count → has x.settled.bits r ≡ true → Settling t x r → Settling t x (r + 1)
  settling_skip x r l h s = record {
    which = λ v lv. (λ k. let b = (s.which v lv).0 k in omega arith, λ k. (s.which v lv).1 (lower v lv k));
    settled = λ v lv k. s.settled v lv (lower v lv k);
    certain = s.certain;
  }
    where
      lower : (v : ℕ) → v < t.count → root t v < r + 1 → root t v < r
      lower v lv k =
          ⊎_elim
          (λ e. absurd (omega (arith, (s.which r l).0 h, ap (root t) e, root_root t sound v lv)))
          (λ ne. omega arith)
          (cases_eq (root t v) r)

  module _ (x : Clusters) (r : ℕ) (below : r < t.count) (s : Settling t x r) (fresh : has x.settled.bits r ≡ false) where
    -- r is a root
    own_root : root t r ≡ r
    own_root =
        ⊎_elim
        (λ h. absurd (both_ways _ fresh ((s.which r below).1 h)))
        (λ h. let k = root_le r below in omega arith)
        (cases_lt (root t r) r)

    -- where no start of it passes, the table has no layout
    pub settling_clash : passing t r ≡ [] → Clash t r
    settling_clash none =
        unsettled_clash t sound r below none
        (λ v l. let lv : v < t.count = omega arith in
        let k = root_le v lv in
        (bits_at x.near.near, has x.doubtful.bits v, s.settled v lv (omega arith)))

    -- what it reaches has it as root, and the other way round
    reached_root : (v : ℕ) → Reach t r v → root t v ≡ r
    reached_root v c = sym (root_same t sound r below v c) ∙ own_root

    root_reached : (v : ℕ) → v < t.count → root t v ≡ r → Reach t r v
    root_reached v l e = same_root_reach t sound r v below l (own_root ∙ sym e)

    -- it is settled
    module _ (y : Clusters) (met : ℕ) (doubtful : Bool) (reaches : (v : ℕ) → (has met v ≡ true) ↔ Reach t r v)
        (kept : (v : ℕ) → (Reach t r v → ⊥) → bits_at y.near.near v ≡ bits_at x.near.near v)
        (here-settled : Settled t r (bits_at y.near.near) doubtful)
        (settled_is : (v : ℕ) → has y.settled.bits v ≡ (has x.settled.bits v || has met v))
        (doubtful-is : (v : ℕ) → has y.doubtful.bits v ≡ (has x.doubtful.bits v || (doubtful && has met v))) where
      -- what was settled before is not of this cluster
      not_met : (v : ℕ) → v < t.count → root t v < r → has met v ≡ false
      not_met v l h = false_from_ne_true _ (λ m. omega (arith, reached_root v ((reaches v).0 m)))

      which_next : (v : ℕ) → v < t.count → (has y.settled.bits v ≡ true) ↔ (root t v < r + 1)
      which_next v l = (
        λ h. ⊎_elim
            (λ k. let b = (s.which v l).0 k in omega arith)
            (λ k. omega (arith, reached_root v ((reaches v).0 k)))
            (or_cases _ _ (sym (settled_is v) ∙ h)),
        λ h. settled_is v ∙ ⊎_elim
            (λ e. or_right _ _ ((reaches v).1 (root_reached v l e)))
            (λ ne. or_left _ _ ((s.which v l).1 (omega arith)))
            (cases_eq (root t v) r),
      )

      settled_next : (v : ℕ) → v < t.count → root t v < r + 1 → Settled t (root t v) (bits_at y.near.near) (has y.doubtful.bits v)
      settled_next v l h = ⊎_elim new old (cases_eq (root t v) r)
        where
          new : root t v ≡ r → Settled t (root t v) (bits_at y.near.near) (has y.doubtful.bits v)
          new e =
              let m = (reaches v).1 (root_reached v l e) in
              let before : has x.doubtful.bits v ≡ false = s.certain v (false_from_ne_true _ (λ k. omega (arith, (s.which v l).0 k))) in
              let is : has y.doubtful.bits v ≡ doubtful = doubtful-is v ∙ new_doubt _ doubtful _ before m in
              subst (λ d. Settled t (root t v) (bits_at y.near.near) d) (sym is) (subst (λ q. Settled t q (bits_at y.near.near) doubtful) (sym e) here-settled)

          old : (root t v ≡ r → ⊥) → Settled t (root t v) (bits_at y.near.near) (has y.doubtful.bits v)
          old ne =
              let lower : root t v < r = omega arith in
              let is : has y.doubtful.bits v ≡ has x.doubtful.bits v = doubtful-is v ∙ old_doubt _ doubtful _ (not_met v l lower) in
              subst (λ d. Settled t (root t v) (bits_at y.near.near) d) (sym is)
              (settled_alike t (root t v) (bits_at x.near.near) (bits_at y.near.near)
              (λ u c. kept u (λ d. omega (arith, reached_root u d, root_root t sound v l, root_same t sound (root t v) (root_below t sound v l) u c)))
              (s.settled v l lower))

      pub settling_more : Settling t y (r + 1)
      settling_more = record {
        which = which_next;
        settled = settled_next;
        certain = λ v h.
            let p = or_parts _ _ (sym (settled_is v) ∙ h) in
            doubtful-is v ∙ none_doubt _ doubtful _ (s.certain v p.0) p.1;
      }

-- all are settled
pub settling_all : (t : Table) → Sound t → (x : Clusters) (n : ℕ) → t.count ≤ n → Settling t x n
    → (v : ℕ) → v < t.count → Settled t (root t v) (bits_at x.near.near) (has x.doubtful.bits v)
settling_all t sound x n l s v lv = s.settled v lv (let b = root_below t sound v lv in omega arith)

-- the cluster of a walk was settled
settling_here : (w : Walk) (before after : Clusters) (doubtful : Bool)
    → Settling (told w.rows.now) before w.root → has before.settled.bits w.root ≡ false
    → ((v : ℕ) → (Reach (told w.rows.now) w.root v → ⊥) → bits_at after.near.near v ≡ bits_at before.near.near v)
    → Settled (told w.rows.now) w.root (bits_at after.near.near) doubtful
    → ((v : ℕ) → has after.settled.bits v ≡ (has before.settled.bits v || has w.met.bits v))
    → ((v : ℕ) → has after.doubtful.bits v ≡ (has before.doubtful.bits v || (doubtful && has w.met.bits v)))
    → Settling (told w.rows.now) after (w.root + 1)
settling_here w before after doubtful s fresh =
    settling_more (told w.rows.now) w.rows.now.sound before w.root w.walked.below s fresh after w.met.bits doubtful
    (walked_reach (told w.rows.now) w.rows.now.sound w.root w.met.bits w.steps.items w.walked)

-- the cluster of r, which was walked through, was settled
pub settling_walk : (x : Rows) (r : ℕ) (w : Walk) → w.rows.now ≡ x → w.root ≡ r → (before after : Clusters) (doubtful : Bool)
    → Settling (told x) before r → has before.settled.bits r ≡ false
    → ((v : ℕ) → (Reach (told w.rows.now) w.root v → ⊥) → bits_at after.near.near v ≡ bits_at before.near.near v)
    → Settled (told w.rows.now) w.root (bits_at after.near.near) doubtful
    → ((v : ℕ) → has after.settled.bits v ≡ (has before.settled.bits v || has w.met.bits v))
    → ((v : ℕ) → has after.doubtful.bits v ≡ (has before.doubtful.bits v || (doubtful && has w.met.bits v)))
    → Settling (told x) after (r + 1)
settling_walk x r w e f before after doubtful s fresh kept settled which doubts =
    let P : Rows → Type 0 = λ x. Settling (told x) before r → Settling (told x) after (r + 1) in
    let Q : ℕ → Type 0 = λ q. has before.settled.bits q ≡ false → Settling (told w.rows.now) before q → Settling (told w.rows.now) after (q + 1) in
    subst P e (subst Q f (λ fresh s. settling_here w before after doubtful s fresh kept settled which doubts) fresh) s

-- The search is right, for every sound table.
use Rattle.std.proofs.Common.{◌≡◌, ℕ, ◌^◌, ◌<◌, Bool, true, false, cond, not, List, [], ◌∷◌, Some, Option, sym, refl, ap, ◌∙◌, subst, ⊎_elim, arith}
use mathlib.Core.List.{Memᴰ}
use Rattle.std.proofs.lemmas.Bool.{both_ways, cases_lt}
use Rattle.evidence.specs.Table.{Table, Sound}
use Rattle.theory.specs.Clusters.{Reach, here}
use Rattle.bitset.specs.Sets.{has}
use Rattle.theory.specs.Stars.{far, Stars}
use Rattle.theory.specs.Walks.{root}
use Rattle.theory.specs.Search.{attempt, passing, is_nil, Settled}
use Rattle.theory.specs.Answer.{first_start, other_starts, near_of, contested, unsettled}
use Rattle.theory.specs.Placed.{Clash}
use Rattle.theory.specs.Theorems.{SearchRight}
use Rattle.theory.proofs.Reaches.{reach_join}
use Rattle.theory.proofs.Roots.{root_reach, root_below, root_least, root_same, root_root}
use Rattle.theory.proofs.Cluster.{attempt_start, member_stars}
use Rattle.theory.proofs.LowestThat.{lowest_none, lowest_some}
use Rattle.theory.proofs.Solves.{settled_solved, unsettled_clash}

-- stars that are equal on the cluster
stars_same : {t : Table} {C : ℕ → Type 0} {st su : ℕ → Bool → ℕ} → ((v : ℕ) (s : Bool) → C v → st v s ≡ su v s) → Stars t C st → Stars t C su
stars_same {t} e good = record {
  other = λ v s c. ap (far t v) (sym (e v s c)) ∙ good.other v s c ∙ e v (not s) c;
  along = λ v s w c h.
      let m = ap (λ a. has a w) (e v s c) ∙ h in
      let x = good.along v s w c m in
      (x.0, sym (e v s c) ∙ x.1 ∙ e w x.0 (good.inside v s w c m));
  inside = λ v s w c h. good.inside v s w c (ap (λ a. has a w) (e v s c) ∙ h);
  small = λ v s c. subst (λ a. a < 2 ^ 64) (e v s c) (good.small v s c);
}

-- a list that is not empty has a first and others
split : (l : List (Option ℕ)) → is_nil l ≡ false → l ≡ first_start l ∷ other_starts l
split [] h = absurd (both_ways _ h refl)
split (x ∷ xs) h = refl

module _ (t : Table) (sound : Sound t) where
  -- ---- a cluster of which a start passes is settled by its near stars

  -- on its cluster, the near stars are those of the preferred start
  near_same : (v : ℕ) → v < t.count → (w : ℕ) → Reach t (root t v) w
      → near_of t w ≡ attempt t (root t v) (first_start (passing t (root t v))) w
  unfolding near_of
  near_same v l w c =
      ap (λ r. attempt t r (first_start (passing t r)) w)
      (sym (root_same t sound v l w (reach_join t sound (root_reach t sound v l) c)))

  near_settled : (v : ℕ) → v < t.count → is_nil (passing t (root t v)) ≡ false → Settled t (root t v) (near_of t) (contested t v)
  unfolding contested
  near_settled v l some =
      let e = split (passing t (root t v)) some in
      let x = first_start (passing t (root t v)) in
      let st = member_stars t sound (root t v) (root_below t sound v l) x (subst (Memᴰ x) (sym e) (Memᴰ.head refl)) in
      record {
        start = x;
        others = other_starts (passing t (root t v));
        preferred = e;
        stars = stars_same (λ w s c. ap (λ a. cond s a (far t w a)) (sym (near_same v l w c))) st;
        begins = near_same v l (root t v) here ∙ attempt_start t sound (root t v) (root_below t sound v l) x;
        doubt = refl;
      }

  -- ---- the whole table

  -- the lowest baseline whose cluster is not settled is the root of it
  unsettled_root : (i : ℕ) → i < t.count → is_nil (passing t (root t i)) ≡ true
      → ((v : ℕ) → v < i → is_nil (passing t (root t v)) ≡ false) → root t i ≡ i
  unsettled_root i l none lower =
      ⊎_elim
      (λ h. absurd (both_ways _ (lower (root t i) h) (ap (λ r. is_nil (passing t r)) (root_root t sound i l) ∙ none)))
      (λ h. omega (arith, root_least t sound i l i here))
      (cases_lt (root t i) i)

  nil : (l : List (Option ℕ)) → is_nil l ≡ true → l ≡ []
  nil [] h = refl
  nil (x ∷ xs) h = absurd (both_ways _ refl h)

  clash_found : (i : ℕ) → unsettled t ≡ Some i → Clash t i
  clash_found i e =
      let x = lowest_some _ t.count i e in
      let at-root = unsettled_root i x.0 x.1 x.2 in
      unsettled_clash t sound i x.0 (nil _ (ap (λ r. is_nil (passing t r)) (sym at-root) ∙ x.1))
      (λ v h. (near_of t, contested t v, near_settled v (omega (arith, x.0)) (x.2 v h)))

pub search_right : SearchRight
search_right t sound = (
  (λ e. settled_solved t sound (near_of t) (contested t) (λ v l. near_settled t sound v l (lowest_none _ t.count e v l))),
  clash_found t sound,
)

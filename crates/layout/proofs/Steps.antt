-- The walk through a cluster, step by step.
use Rattle.std.proofs.Common.{◌≡◌, ℕ, ◌+◌, ◌-◌, ◌^◌, ◌<◌, Bool, true, false, not, ◌&&◌, ◌||◌, eqb, ltb, List, [], ◌∷◌, ◌++◌, map, reverse, length, ◌↔◌, ◌⊎◌, sym, refl, ap, ◌∙◌, subst, ap₂, inl, inr, ⊎_elim, arith, length-append}
use mathlib.Core.Bool.{or-false}
use lib.Bits.{bit_or, or_lt, or_zero_l}
use Rattle.std.proofs.lemmas.List.{append_assoc, append-nil, length-map, length-reverse, reverse-append}
use Rattle.std.proofs.lemmas.Bool.{and_parts, and_from, or_cases, or_left, or_from, ne_eqb, eqb-true, eq-eqb, not-true, both_ways, cases_Bool, cases_eq}
use Rattle.std.proofs.lemmas.Bool.Decides.{nat_tests}
use Rattle.bitset.specs.Sets.{has, minus, single, put, drop, members}
use Rattle.bitset.proofs.Members.{has_none, has_minus, has_or, has_single, has_drop, has_lt, same_set, single_lt, drop_lt}
use Rattle.bitset.proofs.Rising.{members_first, members_gone}
use Rattle.evidence.specs.Table.{Table, Sound}
use Rattle.theory.specs.Stars.{row}
use Rattle.theory.specs.Clusters.{Reach, here, step}
use Rattle.theory.specs.Walks.{Steps, none, more}
use Rattle.theory.proofs.Rows.{row_has}
use Rattle.theory.proofs.Counts.{how_many, how_many_le, how_many_put}
use Rattle.theory.proofs.Walks.{steps_few, steps_reach}
use Rattle.layout.specs.declared.walk.Walk.{Walk}
use Rattle.layout.specs.Walked.{met_by, goes_on, Walked}
use Rattle.layout.proofs.Tells.{put_is}

-- steps from u to some baselines, after others: how many there are
pub steps_count : (u : ℕ) (xs ys : List (ℕ × ℕ)) (l n : List ℕ) → xs ++ map (λ v. (u, v)) l ≡ ys ++ map (λ v. (u, v)) n
    → length xs + length l ≡ length ys + length n
steps_count u xs ys l n e =
    sym (length-append xs (map (λ v. (u, v)) l) ∙ ap (λ k. length xs + k) (length-map l (λ v. (u, v))))
    ∙ ap length e ∙ length-append ys (map (λ v. (u, v)) n) ∙ ap (λ k. length ys + k) (length-map n (λ v. (u, v)))

-- one more at the end of a list stands first in its reverse
pub reverse_push : {A : Type 0} (xs : List A) (x : A) → reverse (xs ++ x ∷ []) ≡ x ∷ reverse xs
reverse_push xs x = reverse-append xs (x ∷ [])

-- at first no step was taken, and the root is met
pub steps_start : (t : Table) (r : ℕ) → r < 64 → (met : ℕ) (taken : List (ℕ × ℕ)) → met ≡ put 0 r → taken ≡ [] → Steps t r (reverse taken) met
steps_start t r low met taken e f =
    subst (λ l. Steps t r (reverse l) met) (sym f) (subst (Steps t r []) (sym (e ∙ put_is 0 r low ∙ or_zero_l (single r))) none)

-- steps from u to each of a list that is the members of n, none of which was met
steps_list : (t : Table) (r u : ℕ) (l : List ℕ) (n met : ℕ) (taken : List (ℕ × ℕ)) → members n ≡ l → n < 2 ^ 64 → met < 2 ^ 64
    → Steps t r (reverse taken) met → has met u ≡ true → ((v : ℕ) → has n v ≡ true → (has met v ≡ false) × (t.shares u v ≡ true))
    → Steps t r (reverse (taken ++ map (λ v. (u, v)) l)) (bit_or met n)
steps_list t r u [] n met taken e ln lm steps was new =
    subst (Steps t r (reverse (taken ++ []))) same (subst (λ s. Steps t r (reverse s) met) (sym (append-nil taken)) steps)
  where
    same : met ≡ bit_or met n
    same =
        same_set 64 _ _ lm (or_lt 64 _ _ lm ln)
        (λ k _. sym (has_or met n k ∙ ap (λ b. has met k || b) (members_gone n ln e k) ∙ or-false (has met k)))
steps_list t r u (v ∷ l) n met taken e ln lm steps was new =
    let first = members_first n v l ln e in
    let met' = bit_or met (single v) in
    let lm' : met' < 2 ^ 64 = or_lt 64 _ _ lm (single_lt 64 v first.0.below) in
    let x = new v first.0.member in
    let steps' : Steps t r (reverse (taken ++ (u, v) ∷ [])) met' =
    subst (λ s. Steps t r s met') (sym (reverse_push taken (u, v))) (more steps was x.0 x.1) in
    subst (Steps t r (reverse (taken ++ map (λ v. (u, v)) (v ∷ l)))) (same first.0.member)
    (subst (λ s. Steps t r (reverse s) (bit_or met' (drop n v))) (append_assoc taken ((u, v) ∷ []) (map (λ v. (u, v)) l))
    (steps_list t r u l (drop n v) met' (taken ++ (u, v) ∷ []) first.1 (drop_lt n v ln) lm' steps' (has_or met (single v) u ∙ or_left _ _ was) left))
  where
    left : (w : ℕ) → has (drop n v) w ≡ true → (has (bit_or met (single v)) w ≡ false) × (t.shares u w ≡ true)
    left w h =
        let p = and_parts (has n w) (not (eqb w v)) (sym (has_drop n v w ln) ∙ h) in
        let x = new w p.0 in
        (has_or met (single v) w ∙ or_from _ _ x.0 (has_single v w ∙ ne_eqb v w (λ same. both_ways _ (not-true _ p.1) (eq-eqb w v (sym same)))), x.1)

    either : (k : ℕ) → (k ≡ v) ⊎ (k ≡ v → ⊥) → has n v ≡ true → ((has met k || eqb v k) || (has n k && not (eqb k v))) ≡ (has met k || has n k)
    either k (inl e) h = let on : has n k ≡ true = ap (has n) e ∙ h in rw on (grind (arith, nat_tests))
    either k (inr ne) h = grind (arith, nat_tests)

    same : has n v ≡ true → bit_or (bit_or met (single v)) (drop n v) ≡ bit_or met n
    same h =
        same_set 64 _ _ (or_lt 64 _ _ (or_lt 64 _ _ lm (single_lt 64 v (has_lt 64 n v ln h))) (drop_lt n v ln)) (or_lt 64 _ _ lm ln)
        (λ k _. has_or _ (drop n v) k
        ∙ ap₂ ◌||◌ (has_or met (single v) k ∙ ap (λ b. has met k || b) (has_single v k)) (has_drop n v k ln)
        ∙ either k (cases_eq k v) h ∙ sym (has_or met n k))

-- steps from u to all of n
pub steps_all : (t : Table) (r u n met : ℕ) (taken : List (ℕ × ℕ)) → n < 2 ^ 64 → met < 2 ^ 64 → Steps t r (reverse taken) met → has met u ≡ true
    → ((v : ℕ) → has n v ≡ true → (has met v ≡ false) × (t.shares u v ≡ true))
    → Steps t r (reverse (taken ++ map (λ v. (u, v)) (members n))) (bit_or met n)
steps_all t r u n met taken = steps_list t r u (members n) n met taken refl

-- there is room for them
pub steps_room : (t : Table) → Sound t → (r : ℕ) → r < t.count → (u : ℕ) (taken : List (ℕ × ℕ)) (l : List ℕ) {met : ℕ}
    → Steps t r (reverse (taken ++ map (λ v. (u, v)) l)) met → length taken + length l < 64
steps_room t sound r below u taken l steps =
    let few = sound.few in
    let new : List (ℕ × ℕ) = map (λ v. (u, v)) l in
    let long : length new ≡ length l = length-map l (λ v. (u, v)) in
    omega (arith, steps_few t sound r below steps, length-reverse (taken ++ new), length-append taken new, long)

-- what shares with u and was not met
pub row_new : (t : Table) → Sound t → (u all new met : ℕ) → all ≡ row t u → ((k : ℕ) → has new k ≡ (has all k && not (has met k)))
    → (v : ℕ) → has new v ≡ true → (has met v ≡ false) × (t.shares u v ≡ true)
row_new t sound u all new met e is v h =
    let x = and_parts _ _ (sym (is v) ∙ h) in
    (not-true _ x.1, sym (row_has t sound u v) ∙ ap (λ m. has m v) (sym e) ∙ x.0)

-- so then all that share with u are met
pub all_met : (t : Table) → Sound t → (u all new met met' : ℕ) → all ≡ row t u → ((k : ℕ) → has new k ≡ (has all k && not (has met k)))
    → ((k : ℕ) → has met' k ≡ (has met k || has new k)) → (v : ℕ) → t.shares u v ≡ true → has met' v ≡ true
all_met t sound u all new met met' e is is' v share =
    let on : has all v ≡ true = ap (λ m. has m v) e ∙ row_has t sound u v ∙ share in
    is' v ∙ ap (λ b. has met v || b) (is v ∙ ap (λ b. b && not (has met v)) on) ∙ either (has met v)
  where
    either : (b : Bool) → (b || (true && not b)) ≡ true
    either true = refl
    either false = refl

-- where nothing is left of a row, all of it is met
pub none_left : (m n v : ℕ) → minus m n ≡ 0 → has m v ≡ true → has n v ≡ true
none_left m n v e h =
    ⊎_elim (λ k. k) (λ k. absurd (both_ways _ (ap (λ x. has x v) e ∙ has_none v) (has_minus m n v ∙ in_m k))) (cases_Bool (has n v))
  where
    in_m : has n v ≡ false → (has m v && not (has n v)) ≡ true
    in_m k = rw (h, k)

-- What shares with one visited is met.
abbrev pub Closed : Table → ℕ → ℕ → Type 0
Closed t visited met = (u v : ℕ) → has visited u ≡ true → t.shares u v ≡ true → has met v ≡ true

-- nobody was visited
pub closed_none : (t : Table) (visited met : ℕ) → visited ≡ 0 → Closed t visited met
closed_none t visited met e u v h s = absurd (both_ways _ (ap (λ m. has m u) e ∙ has_none u) h)

-- w is visited: what shares with it is met
pub closed_more : (t : Table) (visited visited' met met' w : ℕ) → Closed t visited met
    → ((v : ℕ) → has met v ≡ true → has met' v ≡ true) → ((v : ℕ) → t.shares w v ≡ true → has met' v ≡ true)
    → ((k : ℕ) → has visited' k ≡ (has visited k || (eqb k w && ltb w 64))) → Closed t visited' met'
closed_more t visited visited' met met' w was kept new is u v h s =
    ⊎_elim
    (λ p. kept v (was u v p s))
    (λ p. new v (ap (λ x. t.shares x v) (sym (eqb-true u w (and_parts _ _ p).0)) ∙ s))
    (or_cases _ _ (sym (is u) ∙ h))

-- where all that are met are visited, all that is reached is met
pub closed_reach : (t : Table) (r visited met : ℕ) → minus met visited ≡ 0 → has met r ≡ true → Closed t visited met
    → {v : ℕ} → Reach t r v → has met v ≡ true
closed_reach t r visited met e start closed here = start
closed_reach t r visited met e start closed (step {j} {k} a s) =
    closed j k (none_left met visited j e (closed_reach t r visited met e start closed a)) s

-- one more that is visited: fewer are left
pub visit_falls : (m m' u : ℕ) → u < 64 → has m u ≡ false → m' ≡ put m u → 64 - how_many (has m') 64 < 64 - how_many (has m) 64
visit_falls m m' u l new e =
    let is : how_many (has m') 64 ≡ how_many (has (bit_or m (single u))) 64 = ap (λ x. how_many (has x) 64) (e ∙ put_is m u l) in
    omega (arith, how_many_put m u 64 l new, how_many_le (has m') 64)

-- ---- a walk through the whole cluster

-- its steps, and what they have met
pub walked_steps : (t : Table) (root met : ℕ) (taken : List (ℕ × ℕ)) → Walked t root met taken → Steps t root (reverse taken) met
unfolding goes_on met_by
walked_steps t root met taken walked = subst (Steps t root (reverse taken)) (sym walked.met) (go (reverse taken) walked.along)
  where
    go : (steps : List (ℕ × ℕ)) → goes_on t root steps ≡ true → Steps t root steps (met_by root steps)
    go [] h = none
    go (s ∷ steps) h =
        let x = and_parts (goes_on t root steps) _ h in
        let y = and_parts _ _ x.1 in
        let z = and_parts _ _ y.1 in
        more (go steps x.0) y.0 (not-true _ z.0) z.1

-- and the other way round
pub steps_walked : (t : Table) (root met : ℕ) (taken : List (ℕ × ℕ)) → root < t.count → Steps t root (reverse taken) met
    → ((v : ℕ) → Reach t root v → has met v ≡ true) → Walked t root met taken
unfolding goes_on met_by
steps_walked t root met taken below steps whole =
    let x = go steps in record { below = below; along = x.0; met = x.1; whole = whole }
  where
    go : {steps : List (ℕ × ℕ)} {met : ℕ} → Steps t root steps met → (goes_on t root steps ≡ true) × (met ≡ met_by root steps)
    go none = (refl, refl)
    go (more {steps} {met} {p} {v} s was new share) =
        let x = go s in (
          and_from _ _ x.0 (and_from _ _ (ap (λ m. has m p) (sym x.1) ∙ was) (and_from _ _ (ap (λ m. not (has m v)) (sym x.1) ∙ ap not new) share)),
          ap (λ m. bit_or m (single v)) x.1,
        )

-- what it has met is the cluster of its root
pub walked_reach : (t : Table) → Sound t → (root met : ℕ) (taken : List (ℕ × ℕ)) → Walked t root met taken → (v : ℕ) → (has met v ≡ true) ↔ Reach t root v
walked_reach t sound root met taken walked v =
    (steps_reach t sound root walked.below (walked_steps t root met taken walked) v, walked.whole v)

-- the root of a walk is a baseline
pub root_low : (w : Walk) → w.root < 64
root_low w = omega (arith, w.rows.now.sound.few, w.walked.below)

-- Near stars that are handed on along the steps of a walk.
use Rattle.std.proofs.Common.{◌≡◌, ℕ, ◌+◌, ◌-◌, ◌<◌, ◌≤◌, true, false, cond, eqb, List, [], ◌∷◌, reverse, length, get_or, take, set, sym, refl, ap, ◌∙◌, subst, ⊎_elim, arith, length-set}
use Rattle.std.specs.List.{AllByRecursion as All}
use Rattle.std.proofs.ByRecursion.{All-get_or}
use Rattle.std.proofs.lemmas.List.{get_or-set_same, get_or-set_other, get_or-reverse, length-reverse, take_more, take_all}
use Rattle.std.proofs.lemmas.Bool.{or_cases, or_parts, eqb-true, eq-eqb, ne_eqb, cond-true, cond-false, cases_eq, both_ways, false_from_ne_true}
use Rattle.bitset.specs.declared.set.BaselineSet.{BaselineSet}
use Rattle.bitset.specs.Sets.{has, single}
use Rattle.bitset.proofs.Members.{has_or, has_single}
use Rattle.evidence.specs.Table.{Table}
use Rattle.theory.specs.Clusters.{Reach, here, step}
use Rattle.theory.specs.Walks.{Steps, none, more}
use Rattle.theory.specs.Search.{handed, Handed, start, hand, spread}
use Rattle.theory.proofs.Reaches.{shares_lt}
use Rattle.theory.proofs.Walks.{steps_reach}
use Rattle.theory.proofs.Spread.{spread_handed}
use Rattle.layout.specs.declared.walk.Walk.{Walk}
use Rattle.layout.specs.Tables.{none as empty, bits_at}
use Rattle.layout.specs.Told.{told}
use Rattle.layout.proofs.Steps.{reverse_push, walked_steps, root_low}

-- ---- the steps by their places

-- the two baselines of each step share
all_share : {t : Table} {r : ℕ} {steps : List (ℕ × ℕ)} {met : ℕ} → Steps t r steps met → All (λ s. t.shares s.0 s.1 ≡ true) steps
all_share none = tt
all_share (more s m f share) = (share, all_share s)

-- the two baselines of the step at place k share
pub step_shares : (t : Table) (r met : ℕ) (taken : List (ℕ × ℕ)) → Steps t r (reverse taken) met → (k : ℕ) → k < length taken
    → t.shares (get_or taken k (0, 0)).0 (get_or taken k (0, 0)).1 ≡ true
step_shares t r met taken steps k l =
    let back : length taken - 1 - (length taken - 1 - k) ≡ k = omega arith in
    let at : get_or (reverse taken) (length taken - 1 - k) (0, 0) ≡ get_or taken k (0, 0) =
    get_or-reverse taken (length taken - 1 - k) (0, 0) (omega arith) ∙ ap (λ i. get_or taken i (0, 0)) back in
    subst (λ s. t.shares s.0 s.1 ≡ true) at
    (All-get_or (λ s. t.shares s.0 s.1 ≡ true) (reverse taken) (length taken - 1 - k) (0, 0)
    (omega (arith, length-reverse taken)) (all_share steps))

-- so both are baselines
pub step_below : (w : Walk) (taken : List (ℕ × ℕ)) → taken ≡ w.steps.items → (k : ℕ) → k < length taken
    → ((get_or taken k (0, 0)).0 < 64) × ((get_or taken k (0, 0)).1 < 64)
step_below w taken e k l =
    let x = w.rows.now in
    let steps = walked_steps (told x) w.root w.met.bits w.steps.items w.walked in
    let s = step_shares (told x) w.root w.met.bits taken (subst (λ l. Steps (told x) w.root (reverse l) w.met.bits) (sym e) steps) k l in
    (shares_lt (told x) x.sound _ _ (x.sound.alike _ _ ∙ s), shares_lt (told x) x.sound _ _ s)

-- ---- near stars, step by step

-- The near stars after these steps, the newest first.
unfoldable pub spread_on : Table → (ℕ → ℕ) → List (ℕ × ℕ) → ℕ → ℕ
spread_on t near [] v = near v
spread_on t near (s ∷ steps) v = cond (eqb v s.1) (handed t s.0 (spread_on t near steps s.0) v) (spread_on t near steps v)

-- The near stars in an array after the first k of these steps.
pub record Spreading (t : Table) (taken : List (ℕ × ℕ)) (was now : List BaselineSet) (k : ℕ) : Type 0 where
  pub long : length now ≡ 64
  pub is : (v : ℕ) → bits_at now v ≡ spread_on t (bits_at was) (reverse (take k taken)) v

-- no step was taken
pub spreading_none : (t : Table) (taken : List (ℕ × ℕ)) (was : List BaselineSet) → length was ≡ 64 → Spreading t taken was was 0
unfolding spread_on
spreading_none t taken was long = record { long = long; is = λ v. refl }

module _ (t : Table) (taken : List (ℕ × ℕ)) (was now : List BaselineSet) (k : ℕ) (x : BaselineSet) (l : k < length taken) (so : Spreading t taken was now k) where
  -- the step goes from p
  abbrev p : ℕ
  p = (get_or taken k (0, 0)).0

  -- to v
  abbrev v : ℕ
  v = (get_or taken k (0, 0)).1

  -- after these steps
  abbrev steps : List (ℕ × ℕ)
  steps = reverse (take k taken)

  -- of which it is the newest
  more_steps : reverse (take (k + 1) taken) ≡ get_or taken k (0, 0) ∷ steps
  more_steps = ap reverse (take_more taken k (0, 0) l) ∙ reverse_push (take k taken) (get_or taken k (0, 0))

  -- one step more: p hands v a star
  pub spreading_more : v < 64 → x.bits ≡ handed t p (bits_at now p) v → Spreading t taken was (set now v x) (k + 1)
  unfolding spread_on
  spreading_more lv e = record {
    long = simp length-set so.long;
    is = λ u. ⊎_elim (here u) (there u) (cases_eq u v) ∙ ap (λ steps. spread_on t (bits_at was) steps u) (sym more_steps);
  }
    where
      here : (u : ℕ) → u ≡ v → bits_at (set now v x) u ≡ spread_on t (bits_at was) (get_or taken k (0, 0) ∷ steps) u
      here u h =
          let long = so.long in
          ap (bits_at (set now v x)) h ∙ ap (λ (s : BaselineSet). s.bits) (get_or-set_same now v x empty (omega arith)) ∙ e
          ∙ ap (λ a. handed t p a v) (so.is p) ∙ ap (handed t p (spread_on t (bits_at was) steps p)) (sym h) ∙ sym (cond-true _ _ _ (eq-eqb u v h))

      there : (u : ℕ) → (u ≡ v → ⊥) → bits_at (set now v x) u ≡ spread_on t (bits_at was) (get_or taken k (0, 0) ∷ steps) u
      there u ne =
          ap (λ (s : BaselineSet). s.bits) (get_or-set_other now v u x empty ne) ∙ so.is u ∙ sym (cond-false _ _ _ (ne_eqb u v ne))

-- ---- what was handed down

module _ (t : Table) (r a : ℕ) (near : ℕ → ℕ) where
  -- the baselines that were met have their near stars from the first star
  met_spread : near r ≡ a → {steps : List (ℕ × ℕ)} {met : ℕ} → Steps t r steps met
      → (v : ℕ) → has met v ≡ true → spread_on t near steps v ≡ spread t r a steps v
  unfolding spread_on spread
  met_spread first none v h =
      let e : r ≡ v = eqb-true r v (sym (has_single r v) ∙ h) in
      ap near (sym e) ∙ first ∙ sym (cond-true _ _ _ (eq-eqb v r (sym e)))
  met_spread first (more {steps} {met} {p} {v = w} s mp nw share) v h =
      ⊎_elim
      (λ e. cond-true _ _ _ (eq-eqb v w e) ∙ ap (λ a. handed t p a v) (met_spread first s p mp) ∙ sym (cond-true _ _ _ (eq-eqb v w e)))
      (λ ne. cond-false _ _ _ (ne_eqb v w ne)
      ∙ ⊎_elim (met_spread first s v) (λ k. absurd (ne (sym (eqb-true w v (sym (has_single w v) ∙ k))))) (or_cases _ _ (sym (has_or met (single w) v) ∙ h))
      ∙ sym (cond-false _ _ _ (ne_eqb v w ne)))
      (cases_eq v w)

  -- the others keep what they had
  unmet_spread : {steps : List (ℕ × ℕ)} {met : ℕ} → Steps t r steps met → (v : ℕ) → has met v ≡ false → spread_on t near steps v ≡ near v
  unfolding spread_on
  unmet_spread none v h = refl
  unmet_spread (more {met} {v = w} s mp nw share) v h =
      let x = or_parts _ _ (sym (has_or met (single w) v) ∙ h) in
      cond-false _ _ _ (ne_eqb v w (λ e. both_ways _ (sym (has_single w v) ∙ x.1) (eq-eqb w v (sym e)))) ∙ unmet_spread s v x.0

-- near stars that are equal on the cluster are handed alike
pub handed_alike : (t : Table) (r a : ℕ) (near near' : ℕ → ℕ) → ((v : ℕ) → Reach t r v → near' v ≡ near v)
    → (v : ℕ) → Handed t r a near v → Handed t r a near' v × Reach t r v
handed_alike t r a near near' same v (start k) = (start (same r here ∙ k), here)
handed_alike t r a near near' same v (hand {p} h share k) =
    let x = handed_alike t r a near near' same p h in
    let reach = step x.1 share in
    (hand x.0 share (same v reach ∙ k ∙ ap (λ y. handed t p y v) (sym (same p x.1))), reach)

module _ (w : Walk) (first : BaselineSet) (taken : List (ℕ × ℕ)) (was now : List BaselineSet) (k : ℕ) (e : taken ≡ w.steps.items)
    (long : length was ≡ 64) (all : length taken ≤ k) (so : Spreading (told w.rows.now) taken (set was w.root first) now k) where
  -- the table
  abbrev t : Table
  t = told w.rows.now

  -- the root
  abbrev r : ℕ
  r = w.root

  -- the near stars when the spread begins
  abbrev begun : ℕ → ℕ
  begun = bits_at (set was r first)

  -- the steps of the walk
  steps_met : Steps t r (reverse w.steps.items) w.met.bits
  steps_met = walked_steps t r w.met.bits w.steps.items w.walked

  -- the near stars when it ends
  is : (v : ℕ) → bits_at now v ≡ spread_on t begun (reverse w.steps.items) v
  is v = so.is v ∙ ap (λ l. spread_on t begun (reverse l) v) (take_all k taken all ∙ e)

  -- r has the first star
  begun_first : begun r ≡ first.bits
  begun_first =
      let low = root_low w in
      ap (λ (s : BaselineSet). s.bits) (get_or-set_same was r first empty (omega arith))

  -- the near stars of the cluster were handed down from the first star
  pub spread_cluster : (v : ℕ) → Reach t r v → Handed t r first.bits (bits_at now) v
  spread_cluster v c =
      (handed_alike t r first.bits (spread t r first.bits (reverse w.steps.items)) (bits_at now)
      (λ u d. is u ∙ met_spread t r first.bits begun begun_first steps_met u (w.walked.whole u d))
      v (spread_handed t r first.bits steps_met v (w.walked.whole v c))).0

  -- those outside it are as they were
  pub spread_kept : (v : ℕ) → (Reach t r v → ⊥) → bits_at now v ≡ bits_at was v
  spread_kept v out =
      is v
      ∙ unmet_spread t r first.bits begun steps_met v
      (false_from_ne_true _ (λ h. out (steps_reach t w.rows.now.sound r w.walked.below steps_met v h)))
      ∙ ap (λ (s : BaselineSet). s.bits) (get_or-set_other was r v first empty (λ e. out (subst (Reach t r) (sym e) here)))

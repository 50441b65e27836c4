use Rattle.std.proofs.Common.{◌≡◌, ℕ, ◌<◌, ◌++◌, true, map, reverse, sym, refl, ap, ◌∙◌, subst, arith, rules}
use lib.Bits.{bit_or}
use Rattle.std.proofs.lemmas.Bool.{and_parts, and_from, or_left, or_right, eq-eqb, lt-ltb, not-true}
use Rattle.bitset.specs.Sets.{has, put, members, Lowest}
use Rattle.theory.specs.Walks.{Steps}
use Rattle.layout.specs.Told.{told}
use Rattle.layout.proofs.Steps.{steps_start, steps_all, steps_room, row_new, all_met, closed_none, closed_more, closed_reach, visit_falls, steps_walked}
use Rattle.layout.proofs.walk.Walk.of_cluster.Goals as goal

pub loop-u-init : goal.loop-u-init
loop-u-init c =
    let x = c.args.rows.now in
    let r = c.args.root in
    let low : r < 64 = omega (arith, x.sound.few, c.requires) in (
      search rules,
      steps_start (told x) r low c.with-met.result.bits c.new-steps.result.items
          (c.with-met.ensures.bits ∙ ap (λ m. put m r) c.empty.ensures) c.new-steps.ensures,
      c.with-met.ensures.members r ∙ or_right _ _ (and_from _ _ (eq-eqb r r refl) (lt-ltb r 64 low)),
      closed_none (told x) c.empty-visited.result.bits c.with-met.result.bits c.empty-visited.ensures,
    )

pub step_to-requires : goal.step_to-requires
step_to-requires c =
    let t = told c.args.rows.now in
    let met = c.loop-u.met.bits in
    let new = c.minus-new.result.bits in
    let taken = c.loop-u.steps.items in
    let u = c.in-Some.u in
    let low : Lowest c.minus.result.bits u = c.in-Some.ensures in
    let was : has met u ≡ true = (and_parts _ _ (sym (c.minus.ensures.members u) ∙ low.member)).0 in
    let room = steps_room t c.args.rows.now.sound c.args.root c.requires u taken (members new)
    (steps_all t c.args.root u new met taken (search rules) c.loop-u.invariant.0 c.loop-u.invariant.1 was
    (row_new t c.args.rows.now.sound u c.row.result.bits new met c.row.ensures c.minus-new.ensures.members)) in
    omega arith

pub loop-u-smaller : goal.loop-u-smaller
loop-u-smaller c =
    let low : Lowest c.minus.result.bits c.in-Some.u = c.in-Some.ensures in
    visit_falls c.loop-u.visited.bits c.with-visited.result.bits c.in-Some.u low.below
    (not-true _ (and_parts _ _ (sym (c.minus.ensures.members c.in-Some.u) ∙ low.member)).1) c.with-visited.ensures.bits

pub loop-u-preserved : goal.loop-u-preserved
loop-u-preserved c =
    let t = told c.args.rows.now in
    let sound = c.args.rows.now.sound in
    let met = c.loop-u.met.bits in
    let new = c.minus-new.result.bits in
    let taken = c.loop-u.steps.items in
    let u = c.in-Some.u in
    let low : Lowest c.minus.result.bits u = c.in-Some.ensures in
    let was : has met u ≡ true = (and_parts _ _ (sym (c.minus.ensures.members u) ∙ low.member)).0 in
    let more : Steps t c.args.root (reverse (taken ++ map (λ v. (u, v)) (members new))) (bit_or met new) =
    steps_all t c.args.root u new met taken (search rules) c.loop-u.invariant.0 c.loop-u.invariant.1 was
    (row_new t sound u c.row.result.bits new met c.row.ensures c.minus-new.ensures.members) in
    let kept : (v : ℕ) → has met v ≡ true → has c.union-met.result.bits v ≡ true = λ v h. c.union-met.ensures.members v ∙ or_left _ _ h in (
      search rules,
      subst (λ m. Steps t c.args.root (reverse c.step_to.new.steps.items) m) (sym c.union-met.ensures.bits)
          (subst (λ l. Steps t c.args.root (reverse l) (bit_or met new)) (sym c.step_to.ensures) more),
      kept c.args.root c.loop-u.invariant.2,
      closed_more t c.loop-u.visited.bits c.with-visited.result.bits met c.union-met.result.bits u c.loop-u.invariant.3 kept
          (all_met t sound u c.row.result.bits new met c.union-met.result.bits c.row.ensures c.minus-new.ensures.members c.union-met.ensures.members)
          c.with-visited.ensures.members,
    )

pub invariant_of-result : goal.invariant_of-result
invariant_of-result c =
    let was = c.loop-u.invariant in
    record {
      walked = steps_walked (told c.args.rows.now) c.args.root c.loop-u.met.bits c.loop-u.steps.items c.requires was.1
          (λ v. closed_reach (told c.args.rows.now) c.args.root c.loop-u.visited.bits c.loop-u.met.bits
          (sym c.minus.ensures.bits ∙ c.in_default.ensures) was.2 was.3);
    }

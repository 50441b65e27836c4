use Rattle.std.proofs.Common.{◌+◌, ◌||◌, get_or, sym, ap, ◌∙◌, rules}
use Rattle.bitset.specs.Sets.{has}
use Rattle.bitset.proofs.Rising.{member_front}
use Rattle.theory.specs.Record.{blank}
use Rattle.layout.specs.Numbers.{given}
use Rattle.layout.proofs.Giving.{giving_more, giving_all}
use Rattle.layout.proofs.numbers.Numbers.give.Goals as goal

pub offset_bounds-self-w : goal.offset_bounds-self-w
offset_bounds-self-w c = let b = (member_front _ _ _ c.in-Some.ensures.steps).0 in search rules

pub bounds-self-w : goal.bounds-self-w
bounds-self-w c = (member_front _ _ _ c.in-Some.ensures.steps).0

pub loop-w-preserved-then-has : goal.loop-w-preserved-then-has
loop-w-preserved-then-has c =
    let x = c.loop-w.self in
    let w = c.in-Some.w in (
      tt,
      tt,
      giving_more c.args.self.now c.args.a.bits c.loop-w.w-iterator.left.bits c.next.new.self.left.bits x w _ c.next.new.self.small c.in-Some.ensures.steps _
          (ap (λ b. given (get_or x.entries w blank) b x.next) (sym c.if-has.true ∙ c.has.ensures)) c.loop-w.invariant.2,
    )

pub offset_bounds-self-w-else-has : goal.offset_bounds-self-w-else-has
offset_bounds-self-w-else-has c = let b = (member_front _ _ _ c.in-Some.ensures.steps).0 in search rules

pub bounds-self-w-else-has : goal.bounds-self-w-else-has
bounds-self-w-else-has c = (member_front _ _ _ c.in-Some.ensures.steps).0

pub loop-w-preserved : goal.loop-w-preserved
loop-w-preserved c =
    let x = c.loop-w.self in
    let w = c.in-Some.w in (
      tt,
      tt,
      giving_more c.args.self.now c.args.a.bits c.loop-w.w-iterator.left.bits c.next.new.self.left.bits x w _ c.next.new.self.small c.in-Some.ensures.steps _
          (ap (λ b. given (get_or x.entries w blank) b x.next) (sym c.if-has.false ∙ c.has.ensures)) c.loop-w.invariant.2,
    )

pub returns : goal.returns
returns c =
    let g = c.loop-w.invariant.2 in
    record {
      next = ap (λ n. n + 1) g.next;
      begun = λ w. c.union-self.ensures.members w ∙ ap (λ m. has m w || has c.args.a.bits w) g.begun;
      entries = giving_all c.args.self.now c.args.a.bits c.loop-w.w-iterator.left.bits c.loop-w.self c.in-None.ensures.steps.0 g;
    }

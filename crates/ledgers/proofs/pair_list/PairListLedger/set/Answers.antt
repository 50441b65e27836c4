use Rattle.std.proofs.Common.{sym, ◌∙◌, rules, tests}
use Rattle.ledgers.proofs.Listed.{set_listed, removed_kept, set_removed, set_unlisted, set_roomless, added_kept, set_added}
use Rattle.ledgers.proofs.pair_list.PairListLedger.set.Goals as goal

-- the pair is listed
pub returns-in_default-clause-table : goal.returns-in_default-clause-table
returns-in_default-clause-table c =
    set_listed c.args.self.now c.args.i c.args.j c.args.on (search rules) c.in_default.field-0-0 (sym c.find.ensures ∙ c.in_default.is-0) c.in_default.is-1

pub invariant_of-self : goal.invariant_of-self
invariant_of-self c =
    removed_kept c.args.self.now c.args.i c.args.j c.args.on (search rules) c.in-Some-false.place (sym c.find.ensures ∙ c.in-Some-false.is-0)
    c.swap_remove.result c.swap_remove.new.self.items c.swap_remove.ensures.items c.swap_remove.ensures.len

pub returns-in-Some-false-clause-table : goal.returns-in-Some-false-clause-table
returns-in-Some-false-clause-table c =
    set_removed c.args.self.now c.args.i c.args.j c.args.on (search rules) c.in-Some-false.place (sym c.find.ensures ∙ c.in-Some-false.is-0)
    c.swap_remove.result c.swap_remove.new.self.items c.swap_remove.ensures.items c.in-Some-false.is-1

-- the pair is not listed
pub returns-in_default-2-clause-table : goal.returns-in_default-2-clause-table
returns-in_default-2-clause-table c =
    set_unlisted c.args.self.now c.args.i c.args.j c.args.on (search rules) (sym c.find.ensures ∙ c.in_default.is-0) c.in_default.is-1

pub returns-in-None-true-clause-table : goal.returns-in-None-true-clause-table
returns-in-None-true-clause-table c =
    set_roomless c.args.self.now c.args.i c.args.j c.args.on (search rules) (sym c.find.ensures ∙ c.in-None-true.is-0) c.in-None-true.is-1
    (search (rules, tests))

pub invariant_of-self-then-this : goal.invariant_of-self-then-this
invariant_of-self-then-this c =
    added_kept c.args.self.now c.args.i c.args.j c.args.on (search rules) (sym c.find.ensures ∙ c.in-None-true.is-0)
    c.push.new.self.items c.push.ensures.items c.push.ensures.len

pub returns-in-None-true-2-clause-table : goal.returns-in-None-true-2-clause-table
returns-in-None-true-2-clause-table c =
    set_added c.args.self.now c.args.i c.args.j c.args.on (search rules) (sym c.find.ensures ∙ c.in-None-true.is-0)
    c.push.new.self.items c.push.ensures.items c.in-None-true.is-1 (search (rules, tests))

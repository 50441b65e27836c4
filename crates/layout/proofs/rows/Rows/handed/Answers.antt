use Rattle.std.proofs.Common.{sym, ◌∙◌}
use Rattle.std.proofs.lemmas.Bool.{cond-true, cond-false}
use Rattle.theory.specs.Search.{handed}
use Rattle.layout.proofs.rows.Rows.handed.Goals as goal

pub returns-then-has : goal.returns-then-has
unfolding handed
returns-then-has c = sym (cond-true _ _ _ (sym c.has.ensures ∙ c.if-has.true))

pub returns-else-has : goal.returns-else-has
unfolding handed
returns-else-has c = c.far.ensures ∙ sym (cond-false _ _ _ (sym c.has.ensures ∙ c.if-has.false))

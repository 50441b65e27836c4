use Rattle.std.proofs.Common.{ap, ◌∙◌, rules}
use Rattle.files.specs.Fields.{fields_in}
use Rattle.files.proofs.Cuts.{fields_one, fields_at}
use Rattle.files.proofs.fields.FieldsIterator.next.Goals as goal

pub returns-in-Some-clause-steps : goal.returns-in-Some-clause-steps
returns-in-Some-clause-steps c = ap fields_in c.in_ok-line.was ∙ fields_at c.in_ok-line.line.now c.in-Some.i c.in-Some.ensures

pub returns-in-None-clause-steps : goal.returns-in-None-clause-steps
returns-in-None-clause-steps c = ap fields_in c.in_ok-line.was ∙ fields_one c.in_ok-line.line.now c.in-None.ensures

pub returns-in-Some-clause-goes : goal.returns-in-Some-clause-goes
returns-in-Some-clause-goes c =
    let e = ap fields_in c.in_ok-line.was ∙ fields_at c.in_ok-line.line.now c.in-Some.i c.in-Some.ensures in search rules

pub returns-in-None-clause-goes : goal.returns-in-None-clause-goes
returns-in-None-clause-goes c =
    let e = ap fields_in c.in_ok-line.was ∙ fields_one c.in_ok-line.line.now c.in-None.ensures in search rules

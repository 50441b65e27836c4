use Rattle.std.proofs.Common.{refl, rules}
use Rattle.std.proofs.lemmas.Result.{err_from_is_err_and}
use Rattle.files.specs.Reading.{fields}
use Rattle.lines.proofs.Asked.{line_of_fields, one_field, two_fields, pair_fields}
use Rattle.lines.proofs.request.read_request.Goals as goal

pub returns-in-Resolve : goal.returns-in-Resolve
returns-in-Resolve c = line_of_fields _ _ _ (rw c.in_ok-text.ensures.ok_part at c.without_end.ensures) (one_field _ _ (search rules) (search rules))

pub returns-in-Issue : goal.returns-in-Issue
returns-in-Issue c = line_of_fields _ _ _ (rw c.in_ok-text.ensures.ok_part at c.without_end.ensures) (one_field _ _ (search rules) (search rules))

pub returns-in_ok-read_span-in-Enlist : goal.returns-in_ok-read_span-in-Enlist
returns-in_ok-read_span-in-Enlist c =
    line_of_fields _ _ _ (rw c.in_ok-text.ensures.ok_part at c.without_end.ensures) (two_fields _ _ _ (search rules) (search rules) (search rules))

pub returns-in_ok-i-in-Share : goal.returns-in_ok-i-in-Share
returns-in_ok-i-in-Share c =
    let pair = c.in_ok-i-in-Share.ensures in
    line_of_fields _ _ _ (rw c.in_ok-text.ensures.ok_part at c.without_end.ensures) (pair_fields _ _ pair.0 _ _ pair.1 (search rules))

pub returns-in_ok-i-in-Part : goal.returns-in_ok-i-in-Part
returns-in_ok-i-in-Part c =
    let pair = c.in_ok-i-in-Part.ensures in
    line_of_fields _ _ _ (rw c.in_ok-text.ensures.ok_part at c.without_end.ensures) (pair_fields _ _ pair.0 _ _ pair.1 (search rules))

pub returns-in_err-word : goal.returns-in_err-word
returns-in_err-word c =
    let p = err_from_is_err_and c.from_residual-in_err-word.result c.from_residual-in_err-word.ensures.1 in
    let text = c.in_ok-text.text.now in
    let fault = c.in_err-word.ensures in
    rw (p.1, p.2, fault.0) (fields text, (text, rw c.in_ok-text.ensures.ok_part at c.without_end.ensures, refl), fault.1)

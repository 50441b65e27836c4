use Rattle.std.proofs.Common.{◌≡◌, ℕ, List, [], drop, sym, ap, ◌∙◌, rules}
use Rattle.files.specs.Fields.{left_of}
use Rattle.files.specs.Reading.{fields}
use Rattle.files.proofs.Handed.{others_left}
use Rattle.files.proofs.Pairs.{pair_texts}
use Rattle.files.proofs.pair.read_pair.Goals as goal

rest : List (List ℕ) → List (List ℕ)
rest texts = drop 1 texts

pub returns : goal.returns
unfolding rest
returns c =
    let one = others_left _ _ _ c.next-word.ensures.steps ∙ ap rest c.of-rest.ensures in
    let two = c.next_number.ensures.left ∙ ap rest one in
    let three = c.next_number-2.ensures.left ∙ ap rest two in
    let over : left_of c.next_number-2.new.self ≡ [] = search rules in
    pair_texts (fields c.args.line.now) c.in-Some.i c.in-Some-next_number.j
    (rw one at c.in-Some.ensures.number) (rw two at c.in-Some-next_number.ensures.number) (sym three ∙ over)

use Rattle.std.proofs.Common.{unwrap_or, sym, ap, ◌∙◌, rules}
use Rattle.std.proofs.lemmas.Iterator.Adapters.{option_map_id}
use Rattle.std.proofs.lemmas.Iterator.Consumers.{nth_from_yields_List}
use Rattle.std.proofs.lemmas.Option.{unwrap_or-slice_get}
use Rattle.bitset.specs.Sets.{members}
use Rattle.bitset.proofs.Rising.{second_is}
use Rattle.bitset.proofs.Chains.{members_come}
use Rattle.theory.specs.Imagers.{second}
use Rattle.layout.proofs.numbering.second.Goals as goal

pub returns : goal.returns
unfolding second
returns c =
    let nth = sym (option_map_id c.nth.result) ∙ nth_from_yields_List c.nth.result c.nth.new.self 1 c.nth.ensures.ran
    (members_come c.into_iter.result c.args.a c.into_iter.ensures.into_iter_gives) in
    c.unwrap_or.ensures ∙ ap (λ o. unwrap_or o 64) nth ∙ unwrap_or-slice_get (members c.args.a.bits) 1 64 ∙ second_is c.args.a.bits (search rules)

use Rattle.std.proofs.Common.{true, false, cond, [], Some, None, ap, ◌∙◌}
use Rattle.evidence.specs.declared.refusal.Refusal.TheVariants.{ManyPairs}
use Rattle.survey.specs.History.{Enlist, Share}
use Rattle.worked.proofs.Calls.{accepts}
use Rattle.worked.proofs.Pair.{roomy}
use Rattle.worked.proofs.marking.mark.Goals as goal

pub returns : goal.returns
returns g c n a =
    let e = g.L.Evidence in
    let l = g.L.Ledger in
    let one = accepts e l n [] _ c.enlist.new.self a (Enlist 500) c.enlist.result 0 c.enlist.ensures (λ q. q) (λ q. q) in
    let two = accepts e l n _ _ c.enlist-2.new.self one.1 (Enlist 620) c.enlist-2.result 1 c.enlist-2.ensures (λ q. q) (λ q. q) in
    let three = accepts e l n _ _ c.share.new.self two.1 (Share 0 1) c.share.result true c.share.ensures (λ q. q ∙ ap (λ b. cond b None (Some ManyPairs)) (roomy _ two.1.room)) (λ q. q) in
    let four = accepts e l n _ _ c.share-2.new.self three.1 (Share 1 0) c.share-2.result false c.share-2.ensures (λ q. q) (λ q. q) in
    ((λ i. record { first = one.0 i; second = two.0 i; shared = three.0 i; again = four.0 i }), four.1)

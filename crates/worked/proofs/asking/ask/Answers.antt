use Rattle.std.proofs.Common.{false, Some, lit<}
use Rattle.evidence.specs.declared.refusal.Refusal.TheVariants.{Unresolved}
use Rattle.survey.specs.History.{Resolve, AskEnds, AskCommon, AskDoubt}
use Rattle.survey.specs.Told.{together}
use Rattle.worked.proofs.Calls.{accepts, next, refuses}
use Rattle.worked.proofs.Asked.{resolves, resolution, by_layout, no_doubt}
use Rattle.worked.proofs.asking.ask.Goals as goal

pub returns : goal.returns
returns g c n a =
    let e = g.L.Evidence in
    let l = g.L.Ledger in
    let early = next e l n _ _ c.args.survey.now a (AskEnds 0 c.ends.result) c.ends.ensures in
    let found = accepts e l n _ _ c.resolve.new.self early.after Resolve c.resolve.result (record { imagers = 3; doubtful = 0 }) c.resolve.ensures.made (resolves n early.after.most _) (resolution n _) in
    let first = accepts e l n _ _ c.resolve.new.self found.1 (AskEnds 0) c.ends-2.result (0, 1) c.ends-2.ensures (λ q. q) (by_layout (λ a b. a) _) in
    let second = accepts e l n _ _ c.resolve.new.self first.1 (AskEnds 1) c.ends-3.result (0, 2) c.ends-3.ensures (λ q. q) (by_layout (λ a b. b) _) in
    let common = accepts e l n _ _ c.resolve.new.self second.1 (AskCommon 0 1) c.common.result (Some 0) c.common.ensures (λ q. q) (by_layout together _) in
    let doubtful = accepts e l n _ _ c.resolve.new.self common.1 (AskDoubt 0) c.doubtful.result false c.doubtful.ensures (λ q. q) (no_doubt 0 (lit< tt) _) in (
      (λ i. record {
        early = refuses c.ends.result Unresolved early.refused i;
        resolved = found.0 i;
        first = first.0 i;
        second = second.0 i;
        common = common.0 i;
        doubtful = doubtful.0 i;
      }),
      doubtful.1,
    )

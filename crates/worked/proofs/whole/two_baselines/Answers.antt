use Rattle.worked.proofs.Calls.{first}
use Rattle.worked.proofs.whole.two_baselines.Goals as goal

pub issue-lengths-requires : goal.issue-lengths-requires
issue-lengths-requires g c =
    let n = c.args.number in
    let opened = first g.L.Evidence g.L.Ledger n _ _ (g.met.L.Ledger.bounds c.args.ledger).0 c.open-survey.ensures.lawful in
    (n, (c.ask-tellings.ensures n (c.mark-marks.ensures n opened).1).1)

pub returns : goal.returns
returns g c =
    let n = c.args.number in
    let opened = first g.L.Evidence g.L.Ledger n _ _ (g.met.L.Ledger.bounds c.args.ledger).0 c.open-survey.ensures.lawful in
    let marked = c.mark-marks.ensures n opened in
    let told = c.ask-tellings.ensures n marked.1 in
    record { marks = marked.0; tellings = told.0; lengths = (c.issue-lengths.ensures n told.1).0 }

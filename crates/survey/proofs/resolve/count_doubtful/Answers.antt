use Rattle.std.proofs.Common.{◌≡◌, ◌∙◌, rules}
use Rattle.survey.proofs.Counts.{doubtful, counted}
use Rattle.survey.proofs.resolve.count_doubtful.Goals as goal

pub returns-clause-same : goal.returns-clause-same
returns-clause-same c =
    let by_entries : c.count.result ≡ doubtful c.args.count c.args.told.now.entries = search rules in
    by_entries ∙ counted c.args.told.now c.args.count

use Rattle.std.proofs.Common.{◌≡◌, refl, ap, ◌∙◌}
use Rattle.theory.specs.Record.{doubt_of}
use Rattle.survey.specs.Resolves.{how_many}
use Rattle.survey.proofs.survey.Survey.resolve.Goals as goal

pub returns-clause-made : goal.returns-clause-made
returns-clause-made g c =
    let doubt = doubt_of c.place.new.record in
    let counted : c.count_doubtful-doubtful.result ≡ how_many doubt (g.L.Evidence.meaning c.args.self.now.ledger).count =
    c.count_doubtful-doubtful.ensures.same ∙ ap (how_many doubt) c.count.ensures in
    (c.in_ok-ask_idle.ensures.asked, (_, c.in_ok-imagers.ensures.placed.0, refl, counted, refl))

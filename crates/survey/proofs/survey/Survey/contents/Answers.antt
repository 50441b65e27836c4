use Rattle.std.proofs.Common.{ap, ◌∙◌, take_all}
use Rattle.theory.specs.Record.{ends_of, doubt_of}
use Rattle.files.specs.Profile.{profile_bytes}
use Rattle.files.specs.Table.{table_bytes}
use Rattle.survey.proofs.survey.Survey.contents.Goals as goal

pub returns : goal.returns
returns g c =
    let s = c.args.self.now in
    let l = c.args.layout.now in
    let spans = take_all 64 c.as_slice.result.now c.as_slice.ensures.fits ∙ c.as_slice.ensures.value in
    record {
      profile = ap (λ xs. profile_bytes s.number s.begun l.imagers xs (ends_of l.record)) spans;
      table = ap (λ xs. table_bytes s.number s.begun xs (ends_of l.record) (doubt_of l.record)) spans;
    }

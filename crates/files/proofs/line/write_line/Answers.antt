use Rattle.std.proofs.Common.{◌≡◌, take, arith}
use Rattle.std.proofs.lemmas.List.{length-take, take_min}
use Rattle.files.proofs.line.write_line.Goals as goal

pub returns : goal.returns
returns c =
    let fields = c.args.fields.now in
    let first : take c.min.result fields ≡ take 16 fields = rw c.min.ensures (take_min 16 fields) in
    let written = rw first at c.write.ensures in
    record { written = written.written; short = omega (arith, written.few, length-take 16 fields) }

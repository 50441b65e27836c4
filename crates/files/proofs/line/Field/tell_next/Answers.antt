use Rattle.std.proofs.Common.{rules}
use Rattle.files.proofs.Told.{byte_then}
use Rattle.files.proofs.line.Field.tell_next.Goals as goal

pub returns-clause-told : goal.returns-clause-told
returns-clause-told g c = search (rules, byte_then g.S.Sink.laws)

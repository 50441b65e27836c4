use Rattle.std.proofs.Common.{◌*◌, ◌≤◌, length}
use Rattle.files.specs.Contents.{lens_of}
use Rattle.files.specs.Each.{each}
use Rattle.files.proofs.profile.ImagerText.tell.Given as goal

abbrev pub invariant-loop-i : goal.invariant-loop-i
invariant-loop-i g l =
    let lenses = each (lens_of l.self.contents.now l.self.number) l.i in
    record { told : g.S.Sink.Took l.fn.sink lenses l.sink; few : length lenses ≤ 32 * l.i }

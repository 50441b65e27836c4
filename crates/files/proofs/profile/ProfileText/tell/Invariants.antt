use Rattle.std.proofs.Common.{◌+◌, ◌*◌, ◌≤◌, ◌++◌, length}
use Rattle.files.specs.Contents.{profile_head_of, imager_of}
use Rattle.files.specs.Each.{each}
use Rattle.files.proofs.profile.ProfileText.tell.Given as goal

abbrev pub invariant-loop-number : goal.invariant-loop-number
invariant-loop-number g l =
    let lines = profile_head_of l.self.contents.now ++ each (imager_of l.self.contents.now) l.number in
    record { told : g.S.Sink.Took l.fn.sink lines l.sink; few : length lines ≤ 32 + 2048 * l.number }

use Rattle.std.proofs.Common.{◌≡◌, length, ap, arith}
use Rattle.std.proofs.lemmas.List.{length-append, append-nil}
use Rattle.files.specs.Contents.{profile_head_of, imager_of}
use Rattle.files.specs.Each.{each}
use Rattle.files.proofs.Told.{length_next, room_next, told_next}
use Rattle.files.proofs.profile.ProfileText.tell.Goals as goal

pub tell_line-requires : goal.tell_line-requires
tell_line-requires g c =
    let t = c.args.self.now.contents.now in
    g.S.Sink.laws.less _ _ _ c.requires
    (omega (arith, ap length c.profile_head.ensures, length-append (profile_head_of t) (each (imager_of t) t.imagers)))

pub loop-number-init : goal.loop-number-init
loop-number-init g c =
    let told = rw c.profile_head.ensures at c.tell_line.ensures in
    rw append-nil (record { told = told.told; few = omega (arith, told.few) })

pub tell-requires : goal.tell-requires
tell-requires g c =
    let t = c.args.self.now.contents.now in
    room_next g.S.Sink.laws (profile_head_of t) (imager_of t) c.loop-number.number t.imagers (omega arith) c.loop-number.invariant.told c.requires

pub loop-number-preserved : goal.loop-number-preserved
loop-number-preserved g c =
    let t = c.args.self.now.contents.now in
    let head = profile_head_of t in
    let lines = imager_of t in
    record {
      told = told_next g.S.Sink.laws head lines c.loop-number.number c.loop-number.invariant.told c.tell.ensures.told;
      few = omega (arith, length_next head lines c.loop-number.number, c.tell.ensures.few);
    }

pub returns : goal.returns
returns g c =
    let t = c.args.self.now.contents.now in
    let all : c.loop-number.number ≡ t.imagers = omega arith in
    record { told = rw all at c.loop-number.invariant.told; few = omega (arith, rw all at c.loop-number.invariant.few) }

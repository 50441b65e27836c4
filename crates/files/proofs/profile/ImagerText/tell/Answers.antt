use Rattle.std.proofs.Common.{◌≡◌, [], length, ap, ◌∙◌, arith}
use Rattle.files.specs.Contents.{baselines_of, lens_of}
use Rattle.files.proofs.Imagers.{imager_each, lens_there, lens_none}
use Rattle.files.proofs.Told.{length_next, room_next, told_next}
use Rattle.files.proofs.profile.ImagerText.tell.Goals.{then-has, else-has}
use Rattle.files.proofs.profile.ImagerText.tell.Goals as goal

pub loop-i-init : goal.loop-i-init
loop-i-init g c = record { told = g.S.Sink.laws.none _ (g.S.Sink.laws.less _ _ _ c.requires (omega arith)); few = omega arith }

pub tell_line-requires : goal.tell_line-requires
tell_line-requires g c =
    let t = c.args.self.now.contents.now in
    let a = c.args.self.now.number in
    let line = c.lens.ensures ∙ lens_there t a c.loop-i.i _ _ c.baseline-baseline.ensures c.has.ensures c.if-has.true in
    let room = room_next g.S.Sink.laws [] (lens_of t a) c.loop-i.i (baselines_of t) (omega arith) c.loop-i.invariant.told (rw (imager_each t a) at c.requires) in
    g.S.Sink.laws.less _ _ _ room (omega (arith, ap length line))

pub loop-i-preserved : goal.loop-i-preserved
loop-i-preserved g c =
    let t = c.args.self.now.contents.now in
    let a = c.args.self.now.number in
    let more = length_next [] (lens_of t a) c.loop-i.i in
    elim c.if-has.branch [
      | then-has w ↦
          let line = w.lens.ensures ∙ lens_there t a c.loop-i.i _ _ c.baseline-baseline.ensures c.has.ensures w.if-has.true in
          let lens = rw line at w.tell_line.ensures in
          record {
            told = rw w.sink-is (told_next g.S.Sink.laws [] (lens_of t a) c.loop-i.i c.loop-i.invariant.told lens.told);
            few = omega (arith, lens.few);
          }
      | else-has w ↦
          let none = lens_none t a c.loop-i.i _ _ c.baseline-baseline.ensures c.has.ensures w.if-has.false in
          let room = room_next g.S.Sink.laws [] (lens_of t a) c.loop-i.i (baselines_of t) (omega arith) c.loop-i.invariant.told (rw (imager_each t a) at c.requires) in
          let nothing = rw none at (g.S.Sink.laws.none _ (g.S.Sink.laws.less _ _ _ room (omega arith))) in
          record {
            told = rw w.sink-is (told_next g.S.Sink.laws [] (lens_of t a) c.loop-i.i c.loop-i.invariant.told nothing);
            few = omega (arith, ap length none);
          }
    ]

pub returns : goal.returns
returns g c =
    let t = c.args.self.now.contents.now in
    let a = c.args.self.now.number in
    let all : c.loop-i.i ≡ baselines_of t = omega arith in
    rw (imager_each t a, ← all) (record { told = c.loop-i.invariant.told; few = omega arith })

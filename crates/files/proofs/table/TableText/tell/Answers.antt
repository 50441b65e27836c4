use Rattle.std.proofs.Common.{◌≡◌, length, ap, ◌∙◌, arith}
use Rattle.std.proofs.lemmas.List.{length-append, append-nil}
use Rattle.files.specs.Baseline.{row_of}
use Rattle.files.specs.Contents.{baselines_of, table_head_of, table_row_of}
use Rattle.files.specs.Each.{each}
use Rattle.files.proofs.Told.{length_next, room_next, told_next}
use Rattle.files.proofs.table.TableText.tell.Goals as goal

pub tell_line-requires : goal.tell_line-requires
tell_line-requires g c =
    let t = c.args.self.now.contents.now in
    g.S.Sink.laws.less _ _ _ c.requires
    (omega (arith, ap length c.table_head.ensures, length-append (table_head_of t) (each (table_row_of t) (baselines_of t))))

pub loop-i-init : goal.loop-i-init
loop-i-init g c =
    let told = rw c.table_head.ensures at c.tell_line.ensures in
    rw append-nil (record { told = told.told; few = omega (arith, told.few) })

pub tell_line-requires-in-loop-i : goal.tell_line-requires-in-loop-i
tell_line-requires-in-loop-i g c =
    let t = c.args.self.now.contents.now in
    let row = c.row.ensures ∙ ap row_of c.baseline.ensures in
    let room = room_next g.S.Sink.laws (table_head_of t) (table_row_of t) c.loop-i.i (baselines_of t) (omega arith) c.loop-i.invariant.told c.requires in
    g.S.Sink.laws.less _ _ _ room (omega (arith, ap length row))

pub loop-i-preserved : goal.loop-i-preserved
loop-i-preserved g c =
    let t = c.args.self.now.contents.now in
    let row = rw (c.row.ensures ∙ ap row_of c.baseline.ensures) at c.tell_line-in-loop-i.ensures in
    record {
      told = told_next g.S.Sink.laws (table_head_of t) (table_row_of t) c.loop-i.i c.loop-i.invariant.told row.told;
      few = omega (arith, length_next (table_head_of t) (table_row_of t) c.loop-i.i, row.few);
    }

pub returns : goal.returns
returns g c =
    let t = c.args.self.now.contents.now in
    let all : c.loop-i.i ≡ baselines_of t = omega arith in
    record { told = rw all at c.loop-i.invariant.told; few = omega (arith, rw all at c.loop-i.invariant.few) }

use Rattle.std.proofs.Common.{get_or, refl, arith}
use Rattle.layout.specs.Tables.{none, bits_at}
use Rattle.layout.specs.Told.{told}
use Rattle.layout.proofs.Turns.{marks}
use Rattle.layout.proofs.Turns.{begins_ordered, numbering_none, numbering_first, numbering_second, numbering_all, room_first, room_second}
use Rattle.layout.proofs.numbering.number.Goals as goal

pub loop-v-init : goal.loop-v-init
loop-v-init c =
    numbering_none (told c.args.near.now.rows.now) (bits_at c.args.near.now.near) c.args.doubtful.bits
    _ refl c.empty.ensures c.doubts.ensures.told

pub begin-requires : goal.begin-requires
begin-requires c =
    let x = c.args.near.now.rows.now in
    let near = bits_at c.args.near.now.near in
    let v = c.loop-v.v in
    let two = begins_ordered (told x) near v (get_or c.args.near.now.near v none) c.far.result c.in_order.result refl c.far.ensures c.in_order.ensures in
    let few = x.sound.few in
    record {
      below = omega (arith, c.loop-v-test.true);
      room = room_first x.sound c.requires (marks c.doubts.result) v c.in_order.result.0.bits c.in_order.result.1.bits c.loop-v-test.true two c.loop-v.numbers c.loop-v.invariant;
    }

pub begin-requires-in-loop-v : goal.begin-requires-in-loop-v
begin-requires-in-loop-v c =
    let x = c.args.near.now.rows.now in
    let near = bits_at c.args.near.now.near in
    let v = c.loop-v.v in
    let two = begins_ordered (told x) near v (get_or c.args.near.now.near v none) c.far.result c.in_order.result refl c.far.ensures c.in_order.ensures in
    let few = x.sound.few in
    let s = numbering_first x.sound c.requires (marks c.doubts.result) v c.in_order.result.0.bits c.in_order.result.1.bits c.loop-v-test.true two
    c.loop-v.numbers c.begin.new.self c.loop-v.invariant c.begin.ensures in
    record {
      below = omega (arith, c.loop-v-test.true);
      room = room_second x.sound c.requires (marks c.doubts.result) v c.in_order.result.0.bits c.in_order.result.1.bits c.loop-v-test.true two c.begin.new.self s;
    }

pub loop-v-preserved : goal.loop-v-preserved
loop-v-preserved c =
    let x = c.args.near.now.rows.now in
    let near = bits_at c.args.near.now.near in
    let v = c.loop-v.v in
    let two = begins_ordered (told x) near v (get_or c.args.near.now.near v none) c.far.result c.in_order.result refl c.far.ensures c.in_order.ensures in
    numbering_second x.sound c.requires (marks c.doubts.result) v c.in_order.result.0.bits c.in_order.result.1.bits c.loop-v-test.true two
    c.begin.new.self c.begin-in-loop-v.new.self
    (numbering_first x.sound c.requires (marks c.doubts.result) v c.in_order.result.0.bits c.in_order.result.1.bits c.loop-v-test.true two
    c.loop-v.numbers c.begin.new.self c.loop-v.invariant c.begin.ensures)
    c.begin-in-loop-v.ensures

pub returns : goal.returns
returns c =
    let x = c.args.near.now.rows.now in
    numbering_all (told x) x.sound (bits_at c.args.near.now.near) c.requires c.args.doubtful.bits c.doubts.result c.loop-v.v c.loop-v.numbers
    (omega arith) c.doubts.ensures.told c.loop-v.invariant

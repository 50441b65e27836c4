use Rattle.std.proofs.Common.{arith}
use Rattle.std.proofs.lemmas.List.{append-nil, length-append, take_all}
use Rattle.files.specs.declared.line.Field.TheVariants.{Number}
use Rattle.files.proofs.Lines.{line_begun, begun_more, begun_within}
use Rattle.files.proofs.line.tell_line.Goals as goal

pub bytes-requires : goal.bytes-requires
bytes-requires g c =
    g.S.Sink.laws.less _ _ _ c.requires (rw (line_begun c.args.word.now c.args.fields.now) (simp length-append (omega arith)))

pub loop-field-init : goal.loop-field-init
loop-field-init g c = rw append-nil (record { told = c.bytes.ensures; few = omega arith })

pub tell_next-requires : goal.tell_next-requires
tell_next-requires g c =
    g.S.Sink.laws.rest _ _ _ _ _ c.loop-field.invariant.told c.requires
    (begun_within c.args.word.now c.args.fields.now c.loop-field.field-index (Number 0) (omega arith))

pub loop-field-preserved : goal.loop-field-preserved
loop-field-preserved g c =
    rw (begun_more c.args.word.now c.args.fields.now c.loop-field.field-index (Number 0) (omega arith))
    (record {
      told = g.S.Sink.laws.then _ _ _ _ _ c.loop-field.invariant.told c.tell_next.ensures.told;
      few = rw length-append (omega (arith, c.tell_next.ensures.few));
    })

pub byte-requires : goal.byte-requires
byte-requires g c =
    let all = rw (take_all c.loop-field.field-index c.args.fields.now (omega arith)) at c.loop-field.invariant in
    g.S.Sink.laws.rest _ _ _ _ _ all.told c.requires (rw (line_begun c.args.word.now c.args.fields.now) (simp length-append (omega arith)))

pub returns : goal.returns
returns g c =
    let all = rw (take_all c.loop-field.field-index c.args.fields.now (omega arith)) at c.loop-field.invariant in
    rw (line_begun c.args.word.now c.args.fields.now)
    (record { told = g.S.Sink.laws.then _ _ _ _ _ all.told c.byte.ensures; few = rw length-append (omega (arith, all.few)) })

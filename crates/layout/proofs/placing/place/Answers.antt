use Rattle.std.proofs.Common.{subst}
use Rattle.theory.specs.Placed.{Placed}
use Rattle.layout.proofs.placing.place.Goals as goal

pub returns : goal.returns
returns g c = record {
  placed = subst (λ t. Placed t c.args.record.now c.place_rows.new.record c.place_rows.result) c.load-rows.ensures c.place_rows.ensures.placed;
  few = c.place_rows.ensures.few;
}

use Rattle.theory.specs.Imagers.{imagers}
use Rattle.layout.specs.Tables.{bits_at}
use Rattle.layout.specs.Told.{told}
use Rattle.layout.proofs.Turns.{marks}
use Rattle.layout.proofs.Numbered.{Numbering}
use Rattle.layout.proofs.numbering.number.Given as goal

abbrev pub invariant-loop-v : goal.invariant-loop-v
invariant-loop-v l =
    Numbering (told l.near.rows.now) (bits_at l.near.near) (marks l.initial.numbers.entries)
    (imagers (told l.near.rows.now) (bits_at l.near.near) l.v) l.numbers

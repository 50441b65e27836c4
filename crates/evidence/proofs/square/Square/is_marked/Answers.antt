use Rattle.evidence.proofs.Squares.{in_square}
use Rattle.evidence.proofs.square.Square.is_marked.Goals as goal

pub bounds-self-i : goal.bounds-self-i
bounds-self-i c =
    in_square c.args.self.now.n c.args.self.now.bytes.now c.args.i c.args.j c.count.result
    c.count.ensures c.requires.row c.requires.column

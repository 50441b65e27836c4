-- A sink that writes.
use Rattle.std.specs.Prelude.{◌≡◌, ℕ, ◌+◌, ◌≤◌, List, length}
use Rattle.std.proofs.Common.{refl, ap, ◌∙◌, arith, length-append}
use Rattle.files.specs.Splices.{length-splice, puts_then, puts_none}
use Rattle.files.specs.declared.pen.Pen.{Pen}
use Rattle.files.specs.Sink.{SinkLaws}
use Rattle.files.specs.Writing.{Puts}

-- So many bytes are left of the buffer from the place on.
abbrev pub pen_room : Pen → ℕ → Type 0
pen_room s n = s.at + n ≤ length s.out.now

-- The text stands in the same buffer from the one place up to the other, within it.
pub record Penned (s : Pen) (text : List ℕ) (t : Pen) : Type 0 where
  pub same : t.out.ghost_name ≡ s.out.ghost_name
  pub room : s.at + length text ≤ length s.out.now
  pub puts : Puts s.out.now t.out.now s.at t.at text

pub pen_laws : SinkLaws pen_room Penned
pen_laws = record {
  none = λ s r. record { same = refl; room = r; puts = puts_none s.out.now s.at (omega arith) };
  then = λ s t u a b p q.
      let l = length-append a b in
      let k = ap length p.puts.holds ∙ length-splice s.out.now s.at a p.room in
      record {
        same = q.same ∙ p.same;
        room = omega (arith, p.puts.ends, q.room);
        puts = puts_then p.puts q.puts (omega (arith, q.puts.ends, q.room));
      };
  less = λ s m n r l. omega arith;
  rest = λ s t a m n p r l.
      let k = ap length p.puts.holds ∙ length-splice s.out.now s.at a p.room in
      omega (arith, p.puts.ends);
}

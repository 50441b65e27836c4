-- A sink that counts.
use Rattle.std.specs.Prelude.{◌≡◌, ℕ, ◌+◌, ◌<◌, ◌^◌, List, length, ⊤}
use Rattle.std.proofs.Common.{arith, length-append}
use Rattle.files.specs.declared.tally.Tally.{Tally}
use Rattle.files.specs.Sink.{SinkLaws}

-- There is always room.
abbrev pub tally_room : Tally → ℕ → Type 0
tally_room s n = ⊤

-- So many bytes more, where a word holds as many.
abbrev pub Tallied : Tally → List ℕ → Tally → Type 0
Tallied s text t = s.bytes + length text < 2 ^ 64 → t.bytes ≡ s.bytes + length text

pub tally_laws : SinkLaws tally_room Tallied
tally_laws = record {
  none = λ s r h. omega arith;
  then = λ s t u a b p q h. let l = length-append a b in rw l (omega arith);
  less = λ s m n r l. r;
  rest = λ s t a m n p r l. r;
}

use Rattle.std.proofs.Common.{◌≡◌, ℕ, ◌^◌, ◌<◌, get_or, drop}
use Rattle.std.specs.Int.{IsInRange}
use Rattle.files.proofs.Spelled.{read_on}
use Rattle.files.proofs.number.read_number.Given as goal

abbrev pub invariant-loop-byte : goal.invariant-loop-byte
invariant-loop-byte l = record {
  digits : (k : ℕ) → k < l.byte-index → IsInRange 48 57 (get_or l.bytes k 0);
  read : read_on l.n (drop l.byte-index l.bytes) ≡ read_on 0 l.bytes;
  small : l.n < 10 ^ l.byte-index;
}

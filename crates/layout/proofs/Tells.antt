-- The rows tell a sound table, and are its rows.
use Rattle.std.proofs.Common.{◌≡◌, ℕ, ◌<◌, sym, ◌∙◌}
use lib.Bits.{bit_or, or_comm}
use Rattle.std.proofs.lemmas.Bool.{lt-ltb, cond-true}
use Rattle.bitset.specs.Sets.{minus, single, put}
use Rattle.bitset.proofs.Members.{same_set}
use Rattle.evidence.specs.Table.{Table}
use Rattle.theory.specs.Stars.{row, far}
use Rattle.theory.proofs.Rows.{row_lt, row_has}
use Rattle.layout.specs.declared.rows.Rows.{Rows}
use Rattle.layout.specs.Tables.{bits_at}
use Rattle.layout.specs.Told.{told}

-- each row is that of the table
pub row_told : (x : Rows) (i : ℕ) → bits_at x.rows i ≡ row (told x) i
row_told x i = same_set 64 _ _ (x.small i) (row_lt (told x) i) (λ j _. sym (row_has (told x) x.sound i j))

-- a set with one member more is a set of baselines, and holds the member
pub put_is : (m i : ℕ) → i < 64 → put m i ≡ bit_or m (single i)
put_is m i l = cond-true _ _ _ (lt-ltb i 64 l)

-- the other star of v, as it is computed
pub far_put : (t : Table) (v near : ℕ) → v < 64 → put (minus (row t v) near) v ≡ far t v near
unfolding far
far_put t v near l = put_is _ v l ∙ or_comm (minus (row t v) near) (single v)

-- What the search finds is the answer of the table.
use Rattle.std.proofs.Common.{◌≡◌, ℕ, ◌<◌, ◌≤◌, get_or, sym, ap, ◌∙◌, subst}
use Rattle.bitset.specs.Sets.{has}
use Rattle.evidence.specs.Table.{Table, Sound}
use Rattle.theory.specs.declared.record.Entry.{Entry}
use Rattle.theory.specs.declared.record.Record.{Record}
use Rattle.theory.specs.Placed.{Solved}
use Rattle.theory.specs.Record.{blank, entry_of, ends_of, doubt_of}
use Rattle.theory.specs.Walks.{root}
use Rattle.theory.specs.Search.{Settled}
use Rattle.theory.proofs.SameAnswer.{solved_same}
use Rattle.theory.proofs.Solves.{settled_solved}
use Rattle.layout.specs.declared.numbers.Numbers.{Numbers}
use Rattle.layout.specs.Numbers.{Numbered}

-- settled clusters whose imagers are numbered
pub numbered_solved : (t : Table) → Sound t → (near : ℕ → ℕ) (doubtful : ℕ) (x : Numbers) (r : Record) → r.entries ≡ x.entries
    → ((v : ℕ) → v < t.count → Settled t (root t v) near (has doubtful v)) → Numbered t near doubtful x
    → Solved t x.next (ends_of r) (doubt_of r) × ((i : ℕ) → t.count ≤ i → entry_of r i ≡ blank)
numbered_solved t sound near doubtful x r e settled n = (
  subst (λ m. Solved t m (ends_of r) (doubt_of r)) (sym n.imagers)
      (solved_same t
      (λ i l. sym (ap (λ (y : Entry). (y.lower, y.higher)) (at i ∙ n.told i l)))
      (λ i l. sym (ap (λ (y : Entry). y.doubtful) (at i ∙ n.told i l)))
      (settled_solved t sound near (has doubtful) settled)),
  λ i l. at i ∙ n.past i l,
)
  where
    at : (i : ℕ) → entry_of r i ≡ get_or x.entries i blank
    at i = ap (λ l. get_or l i blank) e

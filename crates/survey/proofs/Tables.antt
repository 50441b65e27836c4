-- Tables that say the same are the same.
use Rattle.std.proofs.Common.{◌≡◌, ℕ, Bool}
use Rattle.evidence.specs.Table.{Table}
use Rattle.evidence.specs.Changes.{Same, Added, Put}
use Rattle.survey.specs.Marks.{one_more, with_pair}

pub same_table : {t u : Table} → Same t u → u ≡ t
same_table s = λ x. record { count = s.count x; shares = λ a b. s.shares a b x }

pub added_table : {t u : Table} {n : ℕ} → Added t u n → u ≡ one_more t
added_table s = λ x. record { count = s.count x; shares = λ a b. s.shares a b x }

pub put_table : {t u : Table} {i j : ℕ} {on changed : Bool} → Put t u i j on changed → u ≡ with_pair t i j on
put_table s = λ x. record { count = s.count x; shares = λ a b. s.shares a b x }

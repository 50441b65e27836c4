-- What the survey answered, carried on to the line.
use Rattle.std.proofs.Common.{ℕ, List, Ok, Err, Result, ap}
use Rattle.evidence.specs.declared.refusal.Refusal.{Refusal}
use Rattle.lines.specs.declared.fault.Fault.TheVariants.{Survey}
use Rattle.lines.specs.Served.{Put, carried}

-- a refusal of the survey becomes one of the line
pub carried_ok : (a : Result (List ℕ) Refusal) (old new : List ℕ) (n : ℕ) → Put a old new (Ok n) → Put (carried a) old new (Ok n)
carried_ok (Ok text) old new n p = p
carried_ok (Err e) old new n p = p

pub carried_no : (a : Result (List ℕ) Refusal) (old new : List ℕ) (f : Refusal) → Put a old new (Err f) → Put (carried a) old new (Err (Survey f))
carried_no (Ok text) old new f p = p
carried_no (Err e) old new f p = (ap Survey p.0, p.1)

-- The papers of an issue.
use Rattle.std.specs.Prelude.{ℕ, false}
use Rattle.survey.specs.declared.slip.Slip.{Slip}

-- A paper of this issue, as it is given.
abbrev pub slip : {For : Type 0} → ℕ → ℕ → Slip For
slip survey issue = record { survey = survey; issue = issue; spent = false; file = record {} }

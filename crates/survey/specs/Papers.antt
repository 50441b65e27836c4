-- Whether a survey admits a paper.
use Rattle.std.specs.Prelude.{Bool, ◌&&◌, ◌==◌}
use Rattle.survey.specs.declared.slip.Slip.{Slip}
use Rattle.survey.specs.declared.slip.ForProfile.{ForProfile}
use Rattle.survey.specs.declared.slip.ForTable.{ForTable}
use Rattle.survey.specs.declared.papers.Paper.{Paper}
use Rattle.survey.specs.declared.papers.Paper.TheVariants.{Opens, Closes}
use Rattle.survey.specs.Views.{View, awaits_profile, awaits_table}

-- The numbers are those of the survey and of its latest issue.
abbrev pub is_latest : {For : Type 0} → View → Slip For → Bool
is_latest v p = p.survey == v.number && p.issue == v.begun

-- A paper is admitted when it has the survey's number, the open issue's number and its stage: an opening paper until the
-- profile is written, a closing one after.
abbrev pub admits_opening : View → Slip ForProfile → Bool
admits_opening v p = is_latest v p && awaits_profile v.state

abbrev pub admits_closing : View → Slip ForTable → Bool
admits_closing v p = is_latest v p && awaits_table v.state

abbrev pub admits : View → Paper → Bool
admits v (Opens p) = admits_opening v p
admits v (Closes p) = admits_closing v p

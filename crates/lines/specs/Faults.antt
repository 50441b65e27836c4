-- Why a line is refused: the number, the detail and the layer.
use Rattle.std.specs.Prelude.{ℕ}
use Rattle.evidence.specs.Refusals.{number_of as refusal-number, detail_of as refusal-detail}
use Rattle.lines.specs.declared.fault.TextFault.TheVariants.{ShortReply, NoEnd, UnknownWord, FieldCount, NotNumber}
use Rattle.lines.specs.declared.fault.Fault.{Fault}
use Rattle.lines.specs.declared.fault.Fault.TheVariants.{Text, Survey}

-- A refusal of the survey keeps its number.
abbrev pub number_of : Fault → ℕ
number_of (Text ShortReply) = 1
number_of (Text NoEnd) = 2
number_of (Text UnknownWord) = 3
number_of (Text FieldCount) = 4
number_of (Text (NotNumber place)) = 5
number_of (Survey refusal) = refusal-number refusal

-- A detail that is not named is 0; a refusal of the survey keeps its own.
abbrev pub detail_of : Fault → ℕ
detail_of (Text ShortReply) = 0
detail_of (Text NoEnd) = 0
detail_of (Text UnknownWord) = 0
detail_of (Text FieldCount) = 0
detail_of (Text (NotNumber place)) = place
detail_of (Survey refusal) = refusal-detail refusal

-- The letter of the layer: T for the text, S for the survey.
abbrev pub layer_of : Fault → ℕ
layer_of (Text fault) = 84
layer_of (Survey refusal) = 83

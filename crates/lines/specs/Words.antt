-- The words of the sheet.
use Rattle.std.specs.Prelude.{ℕ, List, codes, ◌≢◌}
use Rattle.lines.specs.declared.word.Word.{Word}
use Rattle.lines.specs.declared.word.Word.TheVariants.{Enlist, Share, Part, Resolve, Issue}

-- The bytes of a word.
abbrev pub word_text : Word → List ℕ
word_text Enlist = codes "enlist"
word_text Share = codes "share"
word_text Part = codes "part"
word_text Resolve = codes "resolve"
word_text Issue = codes "issue"

-- How many numbers follow a word.
abbrev pub numbers_after : Word → ℕ
numbers_after Enlist = 1
numbers_after Share = 2
numbers_after Part = 2
numbers_after Resolve = 0
numbers_after Issue = 0

-- The bytes are no word.
abbrev pub NoWord : List ℕ → Type 0
NoWord bytes = (w : Word) → bytes ≢ word_text w

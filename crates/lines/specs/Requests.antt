-- What a line asks for, and why its text is refused.
use Rattle.std.specs.Prelude.{◌≡◌, ℕ, ◌+◌, ◌<◌, List, [], ◌∷◌, ◌++◌, length, Ok, Err, codes, decimal, Result, ◌≢◌, slice_index_or}
use Rattle.files.specs.declared.pair.BadField.{BadField}
use Rattle.files.specs.Line.{line}
use Rattle.files.specs.Pair.{FirstWrong}
use Rattle.files.specs.Reading.{NotEnded, NotNumber, Spells, fields}
use Rattle.lines.specs.declared.word.Word.{Word}
use Rattle.lines.specs.declared.request.Request.{Request}
use Rattle.lines.specs.declared.request.Request.TheVariants.{Enlist, Share, Part, Resolve, Issue}
use Rattle.lines.specs.declared.fault.TextFault.{TextFault}
use Rattle.lines.specs.declared.fault.TextFault.TheVariants.{ShortReply, NoEnd, UnknownWord, FieldCount, NotNumber as WrongNumber}
use Rattle.lines.specs.Words.{word_text, numbers_after, NoWord}

-- The fields of a request's line.
abbrev pub request_fields : Request → List (List ℕ)
request_fields (Enlist span) = codes "enlist" ∷ decimal span ∷ []
request_fields (Share i j) = codes "share" ∷ decimal i ∷ decimal j ∷ []
request_fields (Part i j) = codes "part" ∷ decimal i ∷ decimal j ∷ []
request_fields Resolve = codes "resolve" ∷ []
request_fields Issue = codes "issue" ∷ []

-- The bytes are a line, and these are its fields.
abbrev pub HasFields : List ℕ → List (List ℕ) → Type 0
HasFields bytes texts = (text : List ℕ) × (bytes ≡ text ++ (10 ∷ [])) × (fields text ≡ texts)

-- The bytes are a line that begins with this word.
abbrev pub Begins : List ℕ → List (List ℕ) → Word → Type 0
Begins bytes texts word = HasFields bytes texts × (slice_index_or texts 0 [] ≡ word_text word)

-- The field at a place after the word is no number.
abbrev pub Wrong : List (List ℕ) → ℕ → Type 0
Wrong texts place = (0 < place) × (place < length texts) × NotNumber (slice_index_or texts place [])

-- What is read: a request exactly where the bytes are its line. Else the first of these that holds: the bytes do not end in
-- byte 10; the first field is no word; the fields are not as many as the word needs; the field at a place, the first such,
-- is no number.
abbrev pub Reads : List ℕ → Result Request TextFault → Type 0
Reads bytes (Ok request) = bytes ≡ line (request_fields request)
Reads bytes (Err ShortReply) = ⊥
Reads bytes (Err NoEnd) = NotEnded bytes
Reads bytes (Err UnknownWord) = (texts : List (List ℕ)) × HasFields bytes texts × NoWord (slice_index_or texts 0 [])
Reads bytes (Err FieldCount) =
    (texts : List (List ℕ)) × (word : Word) × Begins bytes texts word × (length texts ≢ 1 + numbers_after word)
Reads bytes (Err (WrongNumber place)) =
    (texts : List (List ℕ)) × (word : Word) × Begins bytes texts word × (length texts ≡ 1 + numbers_after word)
    × FirstWrong (Wrong texts) place

-- What is read of the fields of `enlist,span`: the span, or that field 1 is no number.
abbrev pub SpanRead : List (List ℕ) → Result ℕ BadField → Type 0
SpanRead texts (Ok span) = Spells (slice_index_or texts 1 []) span
SpanRead texts (Err bad) = (bad.place ≡ 1) × NotNumber (slice_index_or texts 1 [])

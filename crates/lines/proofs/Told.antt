-- The reply at the start of its buffer.
use Rattle.std.proofs.Common.{◌≡◌, ℕ, ◌+◌, ◌≤◌, Bool, true, false, cond, List, ◌++◌, length, take, drop, Ok, Err, Result, sym, refl, ap, ◌∙◌, arith, rules}
use Rattle.std.specs.Int.{from_bool}
use Rattle.std.specs.Array.{IsFirstChunk}
use Rattle.std.proofs.lemmas.List.{places, same_lists, length-append}
use Rattle.evidence.specs.declared.refusal.Refusal.{Refusal}
use Rattle.files.specs.Writing.{splice, Puts}
use Rattle.lines.specs.declared.fault.Fault.{Fault}
use Rattle.lines.specs.Replies.{no_line, reply_text}
use Rattle.lines.specs.Served.{Put}

-- a text that was put at the start is answered
pub put_text : {old new text : List ℕ} {n : ℕ} → Puts old new 0 n text → Put {E = Refusal} (Ok text) old new (Ok n)
put_text p = (omega (arith, p.ends), p.holds)

-- how a flag is told
pub flag_number : (b : Bool) → from_bool b ≡ cond b 1 0
flag_number true = refl
flag_number false = refl

-- The reply of a line's number stands at the start of the buffer, and its length is told.
abbrev pub Told : ℕ → Result (List ℕ) Fault → List ℕ → List ℕ → ℕ → Type 0
Told number a old new n = (n ≡ length (reply_text number a)) × (new ≡ splice old 0 (reply_text number a))

pub told_ok : (number : ℕ) (a : Result (List ℕ) Fault) (old new : List ℕ) (n : ℕ) → Put a old new (Ok n) → Told number a old new n
told_ok number (Ok text) old new n p = p
told_ok number (Err e) old new n p = absurd p

pub told_no : (number : ℕ) (a : Result (List ℕ) Fault) (f : Fault) (old mid new : List ℕ) (n : ℕ)
    → Put a old mid (Err f) → Puts mid new 0 n (no_line number f) → Told number a old new n
told_no number (Ok text) f old mid new n p q = absurd p
told_no number (Err e) f old mid new n p q =
    let same = ap (no_line number) p.0 in (
      rw (sym same) (omega (arith, q.ends)),
      q.holds ∙ ap (λ (l : List ℕ). splice l 0 (no_line number f)) p.1 ∙ ap (splice old 0) same,
    )

-- a text that stands in the front of a buffer stands in the buffer
front_splice : (old front text : List ℕ) (m : ℕ) → m ≤ length old → front ≡ take m old → length text ≤ m
    → splice front 0 text ++ drop m old ≡ splice old 0 text
front_splice old front text m enough same short = rw same (same_lists _ _ (search (rules, places)) (λ k d l. grind (arith, places)))

pub in_whole : (number : ℕ) (a : Result (List ℕ) Fault) (old front new : List ℕ) (m n : ℕ)
    → IsFirstChunk old front m → n ≤ m → Told number a front new n → Told number a old (new ++ drop m old) n × (n ≤ length old)
in_whole number a old front new m n chunk short told =
    let same = front_splice old front (reply_text number a) m chunk.enough chunk.same (omega (arith, told.0)) in
    ((told.0, ap (λ (l : List ℕ). l ++ drop m old) told.1 ∙ same), omega (arith, chunk.enough))

-- what stands in a buffer of m bytes is no longer
pub has_room : (number : ℕ) (a : Result (List ℕ) Fault) (old new : List ℕ) (m n : ℕ) → Told number a old new n → length new ≡ m → n ≤ m
has_room number a old new m n told long =
    let text = reply_text number a in
    let whole = ap (λ (l : List ℕ). length l) told.1 ∙ length-append text (drop (0 + length text) old) in
    omega (arith, whole, told.0, long)

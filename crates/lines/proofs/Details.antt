-- Details that a reply can tell.
use Rattle.std.proofs.Common.{◌≡◌, ℕ, ◌<◌, ◌≤◌, Bool, true, false, cond, ◌⊎◌, List, [], ◌∷◌, Some, None, Ok, Err, Option, Result, sym, refl, ap, ◌∙◌, inl, inr, arith}
use Rattle.evidence.specs.declared.refusal.Refusal.{Refusal}
use Rattle.evidence.specs.declared.refusal.Refusal.TheVariants.{NoLayout}
use Rattle.evidence.specs.Refusals.{Question, first_no, detail_of}
use Rattle.evidence.specs.Table.{Sound}
use Rattle.theory.specs.Placed.{Clash}
use Rattle.survey.specs.Views.{View}
use Rattle.lines.specs.declared.word.Word.{Word}
use Rattle.lines.specs.declared.word.Word.TheVariants as words
use Rattle.lines.specs.declared.fault.TextFault.{TextFault}
use Rattle.lines.specs.declared.fault.TextFault.TheVariants.{ShortReply, NoEnd, UnknownWord, FieldCount, NotNumber}
use Rattle.lines.specs.declared.request.Request.{Request}
use Rattle.lines.specs.declared.request.Request.TheVariants.{Enlist, Share, Part, Resolve, Issue}
use Rattle.lines.specs.declared.fault.Fault.{Fault}
use Rattle.lines.specs.declared.fault.Fault.TheVariants.{Text, Survey}
use Rattle.lines.specs.Faults.{detail_of as fault-detail}
use Rattle.lines.specs.Words.{numbers_after}
use Rattle.lines.specs.Requests.{Reads}
use Rattle.lines.specs.Serving.{Serves}
use Rattle.lines.specs.Served.{AnswersLine, Put}
use Rattle.survey.specs.History.{Event}
use Rattle.survey.specs.Questions.{enlist_questions, mark_questions, begin_questions, resolve_questions}

-- No question names a detail.
abbrev pub Plain : List Question → Type 0
Plain [] = Unit {0}
Plain (q ∷ questions) = (detail_of q.1 ≡ 0) × Plain questions

-- The detail of a refusal, 0 where there is none.
abbrev detail_in : Option Refusal → ℕ
detail_in None = 0
detail_in (Some e) = detail_of e

by_test : (b : Bool) (rest : Option Refusal) (e : Refusal) → detail_of e ≡ 0 → detail_in rest ≡ 0 → detail_in (cond b rest (Some e)) ≡ 0
by_test true rest e p q = q
by_test false rest e p q = p

none_in : (questions : List Question) → Plain questions → detail_in (first_no questions) ≡ 0
none_in [] p = refl
none_in (q ∷ questions) p = by_test q.0 (first_no questions) q.1 p.0 (none_in questions p.1)

pub plain_detail : (questions : List Question) (e : Refusal) → Plain questions → first_no questions ≡ Some e → detail_of e < 65536
plain_detail questions e p first = omega (arith, sym (none_in questions p) ∙ ap detail_in first)

-- the refusals of a resolve
pub resolve_detail : (v : View) (e : Refusal) → Sound v.table
    → (first_no (resolve_questions v) ≡ Some e) ⊎ ((first_no (resolve_questions v) ≡ None) × ((i : ℕ) × (e ≡ NoLayout i) × Clash v.table i))
    → detail_of e < 65536
resolve_detail v e sound (inl first) = plain_detail (resolve_questions v) e (refl, tt) first
resolve_detail v e sound (inr (first, (i, is, clash))) = rw is (omega (arith, clash.below, sound.few))

-- the refusals of a request
pub serves_detail : (v w : View) (request : Request) (made : List Event) (e : Refusal) → Sound v.table → Serves v request made (Err e) w → detail_of e < 65536
serves_detail v w (Enlist span) made e sound (Ok n, calls, left, told) = cc told
serves_detail v w (Enlist span) made e sound (Err f, calls, left, told) =
    let same : e ≡ f = cc told in rw same (plain_detail (enlist_questions v span) f (refl, (refl, (refl, tt))) left.0)
serves_detail v w (Share i j) made e sound (Ok n, calls, left, told) = cc told
serves_detail v w (Share i j) made e sound (Err f, calls, left, told) =
    let same : e ≡ f = cc told in rw same (plain_detail (mark_questions v i j true) f (refl, (refl, (refl, (refl, tt)))) left.0)
serves_detail v w (Part i j) made e sound (Ok n, calls, left, told) = cc told
serves_detail v w (Part i j) made e sound (Err f, calls, left, told) =
    let same : e ≡ f = cc told in rw same (plain_detail (mark_questions v i j false) f (refl, (refl, (refl, (refl, tt)))) left.0)
serves_detail v w Resolve made e sound (Ok n, calls, left, told) = cc told
serves_detail v w Resolve made e sound (Err f, calls, left, told) =
    let same : e ≡ f = cc told in rw same (resolve_detail v f sound left.0)
serves_detail v w Issue made e sound told = plain_detail (begin_questions v) e (refl, (refl, (refl, tt))) told.1.0

-- the refusals of a line's text
few_numbers : (word : Word) → numbers_after word ≤ 2
few_numbers words.Enlist = omega arith
few_numbers words.Share = omega arith
few_numbers words.Part = omega arith
few_numbers words.Resolve = omega arith
few_numbers words.Issue = omega arith

pub text_detail : (bytes : List ℕ) (f : TextFault) → Reads bytes (Err f) → fault-detail (Text f) < 65536
text_detail bytes ShortReply r = omega arith
text_detail bytes NoEnd r = omega arith
text_detail bytes UnknownWord r = omega arith
text_detail bytes FieldCount r = omega arith
text_detail bytes (NotNumber place) (texts, word, begins, count, first) = omega (arith, first.0.1, count, few_numbers word)

-- the refusals of a line
pub line_detail : (v w : View) (bytes : List ℕ) (made : List Event) (a : Result (List ℕ) Fault) (f : Fault) (old new : List ℕ)
    → Sound v.table → AnswersLine v bytes made a w → Put a old new (Err f) → fault-detail f < 65536
line_detail v w bytes made (Ok text) f old new sound answers put = absurd put
line_detail v w bytes made (Err g) f old new sound (Ok request, read, (Ok text, calls, told)) put = cc told
line_detail v w bytes made (Err g) f old new sound (Ok request, read, (Err e, calls, told)) put =
    let same : g ≡ Survey e = cc told in rw (put.0, same) (serves_detail v w request made e sound calls)
line_detail v w bytes made (Err g) f old new sound (Err fault, read, (none, told, left)) put =
    let same : g ≡ Text fault = cc told in rw (put.0, same) (text_detail bytes fault read)

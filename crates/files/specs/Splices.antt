-- Texts that are written into a buffer, one after another.
use Rattle.std.proofs.Common.{◌≡◌, ℕ, ◌+◌, ◌≤◌, List, [], ◌++◌, length, ap, ◌∙◌, arith, rules, length-take, length-drop}
use Rattle.std.proofs.lemmas.List.{places, same_lists, length-append}
use Rattle.files.specs.Writing.{splice, Puts}

-- what is written over some of a buffer leaves it as long as it was
pub length-splice : (old : List ℕ) (at : ℕ) (text : List ℕ) → at + length text ≤ length old → length (splice old at text) ≡ length old
length-splice old at text h = simp (length-append, length-take, length-drop) (omega arith)

-- a text written right after another is the two written as one
splice_splice : (old : List ℕ) (at : ℕ) (s t : List ℕ) (n : ℕ) → n ≡ at + length s → n + length t ≤ length old
    → splice (splice old at s) n t ≡ splice old at (s ++ t)
splice_splice old at s t n e h = same_lists _ _ (search (rules, places)) (λ k d l. grind (arith, places))

-- one text after another
pub puts_then : {old mid new : List ℕ} {at a b : ℕ} {s t : List ℕ}
    → Puts old mid at a s → Puts mid new a b t → b ≤ length old → Puts old new at b (s ++ t)
puts_then {old} {mid} {new} {at} {a} {b} {s} {t} p q h =
    record {
      ends = rw length-append (omega arith);
      holds = q.holds ∙ ap (λ (x : List ℕ). splice x a t) p.holds ∙ splice_splice old at s t a p.ends (omega arith);
    }

-- nothing written
pub puts_none : (old : List ℕ) (at : ℕ) → at ≤ length old → Puts old old at at []
puts_none old at h = record { ends = omega arith; holds = same_lists _ _ (search (rules, places)) (λ k d l. grind (arith, places)) }

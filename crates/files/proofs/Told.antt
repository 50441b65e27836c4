-- Texts told one after another, to any sink.
use Rattle.std.proofs.Common.{◌≡◌, ℕ, zero, suc, ◌+◌, ◌<◌, ◌≤◌, List, [], ◌∷◌, ◌++◌, length, ⊎_elim, add-one, append_assoc, arith}
use Rattle.std.proofs.lemmas.List.{length-append}
use Rattle.std.proofs.lemmas.Bool.{cases_eq}
use Rattle.files.specs.Each.{each}
use Rattle.files.specs.Sink.{SinkLaws}

-- a byte and a text after it
pub byte_then : {S : Type 0} {HasRoom : S → ℕ → Type 0} {Took : S → List ℕ → S → Type 0} → SinkLaws HasRoom Took
    → {s t u : S} {b : ℕ} {text : List ℕ} → Took s (b ∷ []) t → Took t text u → Took s (b ∷ text) u
byte_then laws p q = laws.then _ _ _ _ _ p q

-- texts in the order of their numbers: one more
each_more : (text : ℕ → List ℕ) (i : ℕ) → each text (i + 1) ≡ each text i ++ text i
each_more text i = rw add-one

-- the texts up to one, with it, are no longer than all
pub each_next : (text : ℕ → List ℕ) (i n : ℕ) → i < n → length (each text i) + length (text i) ≤ length (each text n)
each_next text i zero h = absurd (omega arith)
each_next text i (suc n) h =
    ⊎_elim
    (λ e. rw e (omega (arith, length-append (each text n) (text n))))
    (λ ne. omega (arith, each_next text i n (omega arith), length-append (each text n) (text n)))
    (cases_eq i n)

-- a head and the texts up to one, and that one
pub length_next : (head : List ℕ) (text : ℕ → List ℕ) (i : ℕ) → length (head ++ each text (i + 1)) ≡ length (head ++ each text i) + length (text i)
length_next head text i = rw (each_more text i, ← append_assoc) (length-append (head ++ each text i) (text i))

module _ {S : Type 0} {HasRoom : S → ℕ → Type 0} {Took : S → List ℕ → S → Type 0} (laws : SinkLaws HasRoom Took) (head : List ℕ) (text : ℕ → List ℕ) where
  -- after a head and the texts up to one there is room for that one
  pub room_next : {s t : S} (i n : ℕ) → i < n → Took s (head ++ each text i) t → HasRoom s (length (head ++ each text n)) → HasRoom t (length (text i))
  room_next i n h p r =
      laws.rest _ _ _ _ _ p r
      (omega (arith, each_next text i n h, length-append head (each text i), length-append head (each text n)))

  -- one more text is told
  pub told_next : {s t u : S} (i : ℕ) → Took s (head ++ each text i) t → Took t (text i) u → Took s (head ++ each text (i + 1)) u
  told_next i p q = rw (each_more text i, ← append_assoc) (laws.then _ _ _ _ _ p q)

-- What the C entry answers and leaves.
use Rattle.std.specs.Prelude.{◌≡◌, ℕ, zero, suc, ◌+◌, ◌*◌, ◌<◌, ◌≤◌, cond, ◌⊎◌, List, [], ◌∷◌, ◌++◌, length, drop, Some, None, Ok, Err, Result}
use Rattle.evidence.specs.declared.refusal.Refusal.{Refusal}
use Rattle.evidence.specs.declared.refusal.Refusal.TheVariants.{NoLayout, NoRoom}
use Rattle.evidence.specs.Refusals.{number_of, detail_of}
use Rattle.evidence.specs.Square.{squared}
use Rattle.theory.specs.declared.record.Entry.{Entry}
use Rattle.theory.specs.declared.record.Record.{Record}
use Rattle.theory.specs.Record.{entry_of, ends_of, doubt_of}
use Rattle.theory.specs.Placed.{Solved, Clash}
use Rattle.host.specs.Square.{form_refusal}

-- The three bytes of a baseline: lower imager, higher imager, and 1 if it is doubtful, else 0.
abbrev pub three_of : Entry → List ℕ
three_of e = e.lower ∷ (e.higher ∷ (cond e.doubtful 1 0 ∷ []))

-- The bytes of the first n baselines.
abbrev pub told : Record → ℕ → List ℕ
told r zero = []
told r (suc n) = told r n ++ three_of (entry_of r n)

-- Why a square is refused: its form; or a cluster without a layout; or, where there is one, too little room.
abbrev pub Refused : ℕ → List ℕ → ℕ → Refusal → Type 0
Refused n square room e =
    (form_refusal n square ≡ Some e)
    ⊎ ((form_refusal n square ≡ None) × (((i : ℕ) × (e ≡ NoLayout i) × Clash (squared n square) i)
    ⊎ (((imagers : ℕ) × (r : Record) × Solved (squared n square) imagers (ends_of r) (doubt_of r)) × (room < 3 * n) × (e ≡ NoRoom (3 * n)))))

-- What placing a square answers, and what the output buffer holds before and after.
abbrev pub Entered : ℕ → List ℕ → List ℕ → List ℕ → Result ℕ Refusal → Type 0
Entered n square before after (Ok imagers) =
    (form_refusal n square ≡ None) × ((r : Record) × Solved (squared n square) imagers (ends_of r) (doubt_of r)
    × (3 * n ≤ length before) × (after ≡ told r n ++ drop (3 * n) before))
Entered n square before after (Err e) = Refused n square (length before) e × (after ≡ before)

-- The answer as one number.
abbrev pub packed : Result ℕ Refusal → ℕ
packed (Ok imagers) = 256 * imagers
packed (Err e) = number_of e + 256 * detail_of e

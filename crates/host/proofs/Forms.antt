-- The questions that are put to a square before it is placed, and how large a packed answer can be.
use Rattle.std.proofs.Common.{◌≡◌, ℕ, ◌*◌, ◌^◌, ◌<◌, Bool, true, false, cond, List, length, Some, None, Err, Option, refl, ap, ◌∙◌, ◌==◌, nat_lt, arith}
use Rattle.std.proofs.lemmas.Nat.{mul-le}
use Rattle.std.proofs.lemmas.Bool.{lt-ltb, ltb-true, eq-eqb}
use Rattle.evidence.specs.declared.refusal.Refusal.{Refusal}
use Rattle.evidence.specs.declared.refusal.Refusal.TheVariants.{SquareSize, SquareByte, ManyBaselines, NoLayout}
use Rattle.evidence.specs.Square.{squared, squared_sound}
use Rattle.theory.specs.Placed.{Clash}
use Rattle.theory.proofs.LowestThat.{lowest_some}
use Rattle.host.specs.declared.square_form.FullSquare.{FullSquare}
use Rattle.host.specs.Square.{first_wrong, byte_refusal, form_refusal}
use Rattle.host.specs.Entered.{packed}

-- a square that is full is refused by its bytes alone
pub form_by_bytes : (n : ℕ) (square : List ℕ) (s : FullSquare) (o : Option ℕ) → (s.n ≡ n) × (s.bytes.now ≡ square)
    → first_wrong s.n s.bytes.now ≡ o → form_refusal n square ≡ byte_refusal o
form_by_bytes n square s o same bytes =
    rw (← same.0, ← same.1) (
    ap (λ b. cond b (cond (length s.bytes.now == s.n * s.n) (byte_refusal (first_wrong s.n s.bytes.now)) (Some SquareSize)) (Some ManyBaselines)) (lt-ltb s.n 65 (omega (arith, s.few)))
    ∙ ap (λ b. cond b (byte_refusal (first_wrong s.n s.bytes.now)) (Some SquareSize)) (eq-eqb _ _ s.full)
    ∙ ap byte_refusal bytes
    )

-- the place of a wrong byte is small, and so is the refusal of a square
pub form_small : (n : ℕ) (square : List ℕ) (e : Refusal) → form_refusal n square ≡ Some e → packed (Err e) < 2 ^ 32
form_small n square e h = go (nat_lt n 65) (length square == n * n) (first_wrong n square) refl refl h
  where
    go : (few full : Bool) (o : Option ℕ) → nat_lt n 65 ≡ few → first_wrong n square ≡ o
        → cond few (cond full (byte_refusal o) (Some SquareSize)) (Some ManyBaselines) ≡ Some e → packed (Err e) < 2 ^ 32
    go false full o few first h = let is : ManyBaselines ≡ e = cc in rw (← is) (omega arith)
    go true false o few first h = let is : SquareSize ≡ e = cc in rw (← is) (omega arith)
    go true true None few first h = cc
    go true true (Some k) few first h =
        let is : SquareByte k ≡ e = cc in
        let n-few : n < 65 = ltb-true n 65 few in
        rw (← is) (omega (arith, (lowest_some _ (n * n) k first).0, mul-le n n 64 64 (omega arith) (omega arith)))

-- and so is that of a cluster without a layout
pub clash_small : (n : ℕ) (square : List ℕ) (e : Refusal) (i : ℕ) → e ≡ NoLayout i → Clash (squared n square) i → packed (Err e) < 2 ^ 32
clash_small n square e i is clash = rw is (omega (arith, clash.below, (squared_sound n square).few))

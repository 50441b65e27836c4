use Rattle.std.proofs.Common.{◌≡◌, ℕ, ◌<◌, List, length, take, replicate, Ok, Err, Some, Option, decimal, Result, sym, ap, ◌∙◌, arith}
use Rattle.std.proofs.lemmas.Fmt.{length-decimal-le}
use Rattle.std.proofs.lemmas.List.{take_at}
use Rattle.std.specs.Result.{result_ok}
use Rattle.evidence.specs.declared.refusal.Refusal.{Refusal}
use Rattle.files.specs.Writing.{splice, Written}
use Rattle.files.proofs.Spelled.{read_once}
use Rattle.files.proofs.number.reads_back.Goals as goal

-- five bytes have room for a number
written_in_five : (n : ℕ) (new : List ℕ) (r : Result ℕ Refusal) → n < 65536 → Written (decimal n) (replicate 5 0) new 0 r
    → (r ≡ Ok (length (decimal n))) × (new ≡ splice (replicate 5 0) 0 (decimal n))
written_in_five n new (Ok k) small w = (ap Ok w.0, w.2)
written_in_five n new (Err e) small w = absurd (omega (arith, w.1, length-decimal-le 5 n (omega arith) (omega arith) (omega arith)))

the_length : (o : Option ℕ) (r : Result ℕ Refusal) (k n : ℕ) → o ≡ result_ok r → r ≡ Ok n → o ≡ Some k → k ≡ n
the_length o r k n e f g = cc

pub returns-in_err-len : goal.returns-in_err-len
returns-in_err-len c =
    let done = written_in_five c.args.n _ _ (omega arith) c.write_number.ensures in
    cc (done.0, c.ok.ensures.value, c.in_err-len.was)

pub returns : goal.returns
returns c =
    let done = written_in_five c.args.n _ _ (omega arith) c.write_number.ensures in
    let len : c.in_ok-len.len ≡ length (decimal c.args.n) = the_length _ _ _ _ c.ok.ensures.value done.0 c.in_ok-len.was in
    let digits = ap (λ (x : List ℕ). take c.in_ok-len.len x) done.1 ∙ take_at (decimal c.args.n) _ c.in_ok-len.len (sym len) in
    read_once (take c.in_ok-len.len c.write_number.new.out) c.args.n c.read_number.result (omega arith) digits c.read_number.ensures

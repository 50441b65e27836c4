use Rattle.std.proofs.Common.{◌≡◌, ◌/◌, ◌%◌, length, decimal, refl, arith, rules}
use Rattle.std.proofs.lemmas.Fmt.{decimal_digit, decimal_step}
use Rattle.files.proofs.Digits.{one_digit, digit_more}
use Rattle.files.specs.Splices.{puts_then}
use Rattle.files.proofs.pen.+put_number.Goals as goal

pub put_digit-requires : goal.put_digit-requires
put_digit-requires t c = omega (arith, one_digit c.args.n (omega arith))

pub returns-then-n-lt10 : goal.returns-then-n-lt10
returns-then-n-lt10 t c =
    let same : c.args.n % 10 ≡ c.args.n = omega arith in
    rw (decimal_digit c.args.n (omega arith)) (rw same at c.put_digit.ensures)

pub put_number-end-requires : goal.put_number-end-requires
put_number-end-requires t c =
    let l = digit_more c.args.n (length (decimal (c.args.n / 10))) (omega arith) (omega arith) refl in
    (search rules, omega arith)

pub put_digit-requires-2 : goal.put_digit-requires-2
put_digit-requires-2 t c =
    let l = digit_more c.args.n (length (decimal (c.args.n / 10))) (omega arith) (omega arith) refl in
    omega arith

pub returns : goal.returns
returns t c =
    let l = digit_more c.args.n (length (decimal (c.args.n / 10))) (omega arith) (omega arith) refl in
    rw (decimal_step c.args.n (omega arith) (omega arith)) (puts_then c.put_number-end.ensures c.put_digit-2.ensures (omega arith))

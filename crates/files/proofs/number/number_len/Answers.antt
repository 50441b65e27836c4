use Rattle.std.proofs.Common.{rules}
use Rattle.files.proofs.Digits.{one_digit, two_digits, three_digits, four_digits, five_digits}
use Rattle.files.proofs.number.number_len.Goals as goal

pub returns-in-0-to-9 : goal.returns-in-0-to-9
returns-in-0-to-9 c = search (rules, one_digit)

pub returns-in-10-to-99 : goal.returns-in-10-to-99
returns-in-10-to-99 c = search (rules, two_digits)

pub returns-in-100-to-999 : goal.returns-in-100-to-999
returns-in-100-to-999 c = search (rules, three_digits)

pub returns-in-1000-to-9999 : goal.returns-in-1000-to-9999
returns-in-1000-to-9999 c = search (rules, four_digits)

pub returns-in_default : goal.returns-in_default
returns-in_default c = search (rules, five_digits)

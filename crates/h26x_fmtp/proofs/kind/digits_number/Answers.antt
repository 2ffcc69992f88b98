use Rattle.std.proofs.Common.{◌≡◌, ◌<◌, ◌≤◌, length, true, sym, subst, arith, rules}
use Rattle.std.specs.Str.Parse.{ParsesUnsigned}
use Rattle.std.proofs.lemmas.Bool.Decides.{nat_tests}
use Rattle.std.proofs.lemmas.Result.{OkIff-at_err}
use Rattle.h26x_fmtp.specs.Kinds.{are_digits_of}
use Rattle.h26x_fmtp.proofs.NumberLemmas.{digits_utf8, parsed_number, number_too_big}
use Rattle.h26x_fmtp.proofs.kind.digits_number.Goals as goal

pub returns-in-Err-from_str_radix : goal.returns-in-Err-from_str_radix
returns-in-Err-from_str_radix c =
    let same : c.in-Ok.digits.now ≡ c.args.text.now = c.in-Ok.ensures.cases.0 in
    let some : 0 < length c.args.text.now = first_of (search rules, grind (arith, nat_tests)) in
    let digits : are_digits_of c.args.radix c.args.text.now ≡ true = first_of (search rules, grind (arith, nat_tests)) in
    let most : c.args.radix ≤ 36 = first_of (search rules, grind (arith, nat_tests)) in
    let read = parsed_number c.args.radix c.args.text.now c.from_str_radix.result most (subst (λ t. ParsesUnsigned 64 c.args.radix t c.from_str_radix.result) same c.from_str_radix.ensures.value) digits in
    sym (number_too_big c.args.radix c.args.other c.args.text.now some digits (λ fits. OkIff-at_err c.from_str_radix.result _ _ _ read c.in-Err-from_str_radix.is (some, fits)))

pub returns-in-Err : goal.returns-in-Err
returns-in-Err c =
    let digits : are_digits_of c.args.radix c.args.text.now ≡ true = first_of (search rules, grind (arith, nat_tests)) in
    let most : c.args.radix ≤ 36 = first_of (search rules, grind (arith, nat_tests)) in
    absurd (c.in-Err.ensures.cases.0 (digits_utf8 c.args.radix c.args.text.now most digits))

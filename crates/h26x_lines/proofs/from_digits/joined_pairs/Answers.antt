use Rattle.std.proofs.Common.{◌++◌, arith, length-append}
use Rattle.h26x_lines.proofs.DigitLemmas.{two_by_two}
use Rattle.h26x_lines.proofs.from_digits.joined_pairs.Goals as goal

pub returns : goal.returns
returns c e =
    two_by_two (c.args.first ++ c.args.second)
    (omega (arith, length-append c.args.first c.args.second, c.fits-first.0, c.fits-second.0)) e

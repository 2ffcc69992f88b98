use Rattle.hex.specs.Hex.{lower_digits}
use Rattle.h26x_lines.proofs.TextLemmas.{by_turns}
use Rattle.h26x_lines.proofs.to_digits.digit_pairs.Goals as goal

pub returns : goal.returns
returns c = rw (c.high_digits.ensures, c.low_digits.ensures) (by_turns lower_digits c.args.bytes c.fits-bytes.0)

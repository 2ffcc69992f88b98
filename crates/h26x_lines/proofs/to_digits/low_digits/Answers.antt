use Rattle.std.proofs.Common.{◌%◌, bit_and, arith}
use Rattle.std.proofs.lemmas.Nat.{and_mask, and_le_r}
use Rattle.hex.specs.Hex.{lower_digits}
use Rattle.h26x_lines.proofs.TextLemmas.{looked_up, places_fit}
use Rattle.h26x_lines.proofs.to_digits.low_digits.Goals as goal

pub swizzle : goal.swizzle
swizzle c = places_fit bit_and 15 (λ x h. omega (arith, and_le_r x 15)) c.args.bytes c.fits-bytes

pub returns : goal.returns
returns c =
    looked_up lower_digits bit_and 15 (λ x. x % 16) (λ x h. omega (arith, and_le_r x 15)) (λ x. and_mask x 4) c.args.bytes c.fits-bytes

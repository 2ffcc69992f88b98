use Rattle.std.proofs.Common.{◌/◌, ◌^◌, ℕ, arith, refl}
use Rattle.hex.specs.Hex.{lower_digits}
use Rattle.h26x_lines.proofs.TextLemmas.{looked_up, places_fit}
use Rattle.h26x_lines.proofs.to_digits.high_digits.Goals as goal

pub swizzle : goal.swizzle
swizzle c = places_fit (λ (a b : ℕ). a / 2 ^ b) 4 (λ x h. omega arith) c.args.bytes c.fits-bytes

pub returns : goal.returns
returns c = looked_up lower_digits (λ (a b : ℕ). a / 2 ^ b) 4 (λ x. x / 16) (λ x h. omega arith) (λ x. refl) c.args.bytes c.fits-bytes

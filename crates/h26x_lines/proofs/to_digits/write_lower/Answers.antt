use Rattle.std.proofs.Common.{◌≡◌, ◌+◌, ◌*◌, ◌-◌, ◌≤◌, List, ℕ, arith, length, refl, drop, take}
use Rattle.std.proofs.lemmas.List.{length-drop, take_rest}
use Rattle.hex.specs.Hex.{encode_with, lower_digits}
use Rattle.h26x_lines.proofs.TextLemmas.{last_digits, next_digits, on_ok}
use Rattle.h26x_lines.proofs.to_digits.write_lower.Goals as goal

pub loop-at-init : goal.loop-at-init
unfolding encode_with
loop-at-init c = record { within = omega arith; digits = refl }

pub loop-at-preserved : goal.loop-at-preserved
loop-at-preserved c =
    let first : List ℕ = c.digit_pairs.result.0 in
    let second : List ℕ = c.digit_pairs.result.1 in
    let fits : c.loop-at.at + 16 ≤ length c.args.bytes.now = omega arith in
    record {
      within = fits;
      digits = next_digits lower_digits c.args.bytes.now c.loop-at.digits first second c.loop-at.at fits (omega arith) (omega arith) (omega arith) c.digit_pairs.ensures c.loop-at.invariant.digits;
    }

pub returns : goal.returns
returns c =
    let at : ℕ = c.loop-at.at in
    let text : List ℕ = drop at c.args.bytes.now in
    let room : length (take (length c.loop-at.digits - 2 * at) (drop (2 * at) c.loop-at.digits)) ≡ 2 * length (take (length c.args.bytes.now - at) text) =
    rw (take_rest c.loop-at.digits (2 * at), take_rest c.args.bytes.now at)
    (omega (arith, length-drop (2 * at) c.loop-at.digits, length-drop at c.args.bytes.now)) in
    let rest : c.encode_to_slice.new.output ≡ encode_with lower_digits text =
    rw (← take_rest c.args.bytes.now at) (on_ok _ _ (c.encode_to_slice.ensures.fits.1 room) c.encode_to_slice.ensures.written) in
    last_digits lower_digits c.args.bytes.now c.loop-at.digits c.encode_to_slice.new.output at _ (omega arith) (omega arith) refl rest
    c.loop-at.invariant.digits

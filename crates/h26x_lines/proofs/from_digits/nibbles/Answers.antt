use Rattle.std.proofs.Common.{List, ℕ, Fits, w8, subst, sym}
use Rattle.std.proofs.lemmas.Simd.{pick_l_whole}
use Rattle.std.specs.List.{range_with_len}
use lib.Lanes.{Each1, pick_l}
use Rattle.h26x_lines.specs.Digits.{digit_value}
use Rattle.h26x_lines.proofs.DigitLemmas.{capped, lane, lane_is, map_same}
use Rattle.h26x_lines.proofs.from_digits.nibbles.Goals as goal

pub returns : goal.returns
returns c =
    let lanes : List ℕ = pick_l 0 c.args.text (range_with_len 0 16) in
    let e = pick_l_whole 0 c.args.text 16 c.fits-text.0 in
    let fits = subst (λ (v : List ℕ). Each1 (Fits w8) v) (sym e) c.fits-text.1 in
    rw (← e) (map_same (λ x. capped (lane x)) digit_value lane_is lanes fits)

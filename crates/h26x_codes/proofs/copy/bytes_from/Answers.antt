use Rattle.std.proofs.Common.{rules, ap, ◌∙◌, ◌≤◌, ◌-◌, drop, length, arith}
use Rattle.std.proofs.lemmas.List.{length-drop, take_all}
use Rattle.h26x_codes.proofs.CopyLemmas.{bytes_without_headroom, bytes_behind, no_longer}
use Rattle.h26x_codes.proofs.copy.bytes_from.Goals as goal

pub slice_bounds-result-count : goal.slice_bounds-result-count
slice_bounds-result-count c =
    let packets = c.args.packets.now.packets in
    let all = ap length (bytes_without_headroom c.args.packets.now.headroom packets c.bytes.result.now c.requires.headroom c.bytes.ensures.packets) in
    let fewer = no_longer packets c.args.first in
    let start = c.start_of.ensures in
    omega (arith, all, fewer, start)

pub slice_bounds-result-start : goal.slice_bounds-result-start
slice_bounds-result-start c =
    let packets = c.args.packets.now.packets in
    let all = ap length (bytes_without_headroom c.args.packets.now.headroom packets c.bytes.result.now c.requires.headroom c.bytes.ensures.packets) in
    let fewer = no_longer packets c.args.first in
    let start = c.start_of.ensures in
    let within : c.start_of.result ≤ length c.bytes.result.now = omega (arith, all, fewer, start) in
    search rules

pub returns : goal.returns
returns c =
    let packets = c.args.packets.now.packets in
    let bytes = c.bytes.result.now in
    let start = c.start_of.result in
    let long = length-drop start bytes in
    take_all (length bytes - start) (drop start bytes) (omega (arith, long)) ∙ ap (λ k. drop k bytes) c.start_of.ensures
    ∙ ap (drop _) (bytes_without_headroom c.args.packets.now.headroom packets bytes c.requires.headroom c.bytes.ensures.packets) ∙ bytes_behind packets c.args.first

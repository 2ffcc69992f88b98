use Rattle.std.proofs.Common.{refl, ◌∙◌, arith, ◌+◌, ◌-◌, length}
use Rattle.h26x_packetizer.proofs.FragmentLemmas.{rounded_up}
use Rattle.h26x_packetizer.proofs.fragmentation.count_of_fragments.Goals as goal

pub returns : goal.returns
returns g c =
    let h = c.header_len-header_len.ensures.is in
    let n = c.donl_len.ensures.is in
    let left = c.args.limit - (c.header_len-header_len.result + 1) in
    c.div_ceil.ensures ∙ rounded_up (c.donl_len.result + (length c.args.unit.now - c.header_len-header_len.result)) left (omega (arith, h, n, c.requires.room)) ∙ (rw (h, n) refl)

use Rattle.std.proofs.Common.{ap, ◌∙◌, length}
use Rattle.h26x_codes.proofs.CopyLemmas.{ends_without_headroom, length-ends}
use Rattle.h26x_codes.proofs.copy.packet_ends.Goals as goal

pub returns-clause-ends : goal.returns-clause-ends
returns-clause-ends c = ends_without_headroom c.args.packets.now.headroom c.args.packets.now.packets c.packet_ends.result.now c.requires c.packet_ends.ensures

pub returns-clause-count : goal.returns-clause-count
returns-clause-count c = ap length (ends_without_headroom c.args.packets.now.headroom c.args.packets.now.packets c.packet_ends.result.now c.requires c.packet_ends.ensures) ∙ length-ends 0 c.args.packets.now.packets

use Rattle.h26x_packetizer.specs.PacketizerView.{packetizer_state}
use Rattle.h265_payload.specs.Setting as h265_setting
use Rattle.h266_payload.specs.Setting as h266_setting
use Rattle.h26x_codec.proofs.PlacementLemmas.{placed_by}
use Rattle.h26x_codec.proofs.any_packetizer.AnyPacketizer.packetize_unit_to_memory.Goals as goal

pub returns-in-H265-clause-after : goal.returns-in-H265-clause-after
returns-in-H265-clause-after c = rw c.in-H265.is (placed_by (λ v. packetizer_state (h265_setting.sending_format v.codec) v) c.packetize_unit_to_memory-in-H265.result _ _ _ c.packetize_unit_to_memory-in-H265.ensures.after)

pub returns-in-H266-clause-after : goal.returns-in-H266-clause-after
returns-in-H266-clause-after c = rw c.in-H266.is (placed_by (λ v. packetizer_state (h266_setting.setting_format v.codec) v) c.packetize_unit_to_memory-in-H266.result _ _ _ c.packetize_unit_to_memory-in-H266.ensures.after)

pub returns-in-H265-clause-packets : goal.returns-in-H265-clause-packets
returns-in-H265-clause-packets c = rw c.in-H265.is c.packetize_unit_to_memory-in-H265.ensures.packets

pub returns-in-H266-clause-packets : goal.returns-in-H266-clause-packets
returns-in-H266-clause-packets c = rw c.in-H266.is c.packetize_unit_to_memory-in-H266.ensures.packets

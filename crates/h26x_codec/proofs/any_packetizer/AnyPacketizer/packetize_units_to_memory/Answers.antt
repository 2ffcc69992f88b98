use Rattle.h26x_packetizer.specs.PacketizerView.{packetizer_state}
use Rattle.h265_payload.specs.Setting as h265_setting
use Rattle.h266_payload.specs.Setting as h266_setting
use Rattle.h26x_codec.proofs.PlacementLemmas.{placed_by}
use Rattle.h26x_codec.proofs.any_packetizer.AnyPacketizer.packetize_units_to_memory.Goals as goal

pub returns-in-H265-clause-after : goal.returns-in-H265-clause-after
returns-in-H265-clause-after c = rw c.in-H265.is (placed_by (λ v. packetizer_state (h265_setting.sending_format v.codec) v) c.packetize_units_to_memory-in-H265.result _ _ _ c.packetize_units_to_memory-in-H265.ensures.after)

pub returns-in-H266-clause-after : goal.returns-in-H266-clause-after
returns-in-H266-clause-after c = rw c.in-H266.is (placed_by (λ v. packetizer_state (h266_setting.setting_format v.codec) v) c.packetize_units_to_memory-in-H266.result _ _ _ c.packetize_units_to_memory-in-H266.ensures.after)

pub returns-in-H265-clause-packets : goal.returns-in-H265-clause-packets
returns-in-H265-clause-packets c = rw c.in-H265.is c.packetize_units_to_memory-in-H265.ensures.packets

pub returns-in-H266-clause-packets : goal.returns-in-H266-clause-packets
returns-in-H266-clause-packets c = rw c.in-H266.is c.packetize_units_to_memory-in-H266.ensures.packets

pub returns-in-H265-clause-refused : goal.returns-in-H265-clause-refused
returns-in-H265-clause-refused c = rw c.in-H265.is c.packetize_units_to_memory-in-H265.ensures.refused

pub returns-in-H265-clause-memory : goal.returns-in-H265-clause-memory
returns-in-H265-clause-memory c = rw c.in-H265.is c.packetize_units_to_memory-in-H265.ensures.memory

pub returns-in-H266-clause-refused : goal.returns-in-H266-clause-refused
returns-in-H266-clause-refused c = rw c.in-H266.is c.packetize_units_to_memory-in-H266.ensures.refused

pub returns-in-H266-clause-memory : goal.returns-in-H266-clause-memory
returns-in-H266-clause-memory c = rw c.in-H266.is c.packetize_units_to_memory-in-H266.ensures.memory

pub returns-in-H264-clause-packets : goal.returns-in-H264-clause-packets
returns-in-H264-clause-packets c = rw c.in-H264.is c.packetize_units_to_memory.ensures.packets

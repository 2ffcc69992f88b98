use Rattle.std.proofs.Common.{map, ◌≡◌, ◌++◌, ◌-◌, ◌*◌, ◌<◌, ◌≤◌, drop, length, eqb}
use Rattle.std.specs.List.{range_with_len}
use Rattle.h26x_model.specs.Send.Packets.{fragment_room, fragment, fragmented_bytes, fragment_count}
use Rattle.h26x_packetizer.proofs.fragmentation.push_data.Given as goal

-- the packets so far, and what is left for the others
abbrev pub invariant-loop-donl : goal.invariant-loop-donl
invariant-loop-donl g l = record {
  packets : g.S.PacketSink.packets l.made ≡ g.S.PacketSink.packets l.fn.made ++ map (fragment (g.C.PayloadFormat.format l.codec) l.don l.limit l.unit) (range_with_len 0 (length (g.S.PacketSink.packets l.made) - length (g.S.PacketSink.packets l.fn.made)));
  rest : l.donl ++ l.rest ≡ drop ((length (g.S.PacketSink.packets l.made) - length (g.S.PacketSink.packets l.fn.made)) * fragment_room (g.C.PayloadFormat.format l.codec) l.limit) (fragmented_bytes (g.C.PayloadFormat.format l.codec) l.don l.unit);
  donl : length l.donl < l.room;
  short : length l.donl ≤ 2;
  few : length l.donl ≤ 2 * length l.rest;
  count : length (g.S.PacketSink.packets l.made) - length (g.S.PacketSink.packets l.fn.made) ≤ fragment_count (g.C.PayloadFormat.format l.codec) l.limit l.unit;
  start : l.start ≡ eqb (length (g.S.PacketSink.packets l.made) - length (g.S.PacketSink.packets l.fn.made)) 0;
  few_before : length (g.S.PacketSink.packets l.fn.made) ≤ length (g.S.PacketSink.packets l.made);
  before : g.S.PacketSink.before l.made ≡ g.S.PacketSink.before l.fn.made;
}

abbrev pub decreases-loop-donl : goal.decreases-loop-donl
decreases-loop-donl g l = length l.rest

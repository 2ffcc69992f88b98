use Rattle.std.proofs.Common.{◌≡◌, ◌≤◌, map, length, vec_len, vec_capacity, Some}
use Rattle.h26x_core.specs.Front.{IsFrontOf}
use Rattle.h26x_model.specs.Send.PacketizerState.{PacketizerState}
use Rattle.h26x_model.specs.Receive.DepacketizerState.{Depacketization, after_packets}
use Rattle.h26x_transmission.specs.CodecStates.{codec_packetizer_state, codec_depacketization}
use Rattle.h26x_transmission.specs.Transmissions.{AreSent, next_calls}
use Rattle.h26x_transmission.proofs.transmissions.carry_calls.Given as goal

-- the calls so far were run
abbrev pub invariant-loop-mtu : goal.invariant-loop-mtu
invariant-loop-mtu g l = record {
  count : vec_len l.made ≡ l.mtu-index;
  room : length l.calls ≤ vec_capacity l.made;
  kept : IsFrontOf l.fn.out.items l.out.items;
  sent : (s : PacketizerState) → codec_packetizer_state l.fn.p ≡ Some s →
      AreSent s (next_calls s l.calls) l.made.items (map (λ p. p.items) l.packets.items) (codec_packetizer_state l.p);
  taken : (w : Depacketization) → codec_depacketization l.fn.d l.fn.out.items l.fn.extra ≡ Some w →
      codec_depacketization l.d l.out.items l.extra ≡ Some (after_packets w (map (λ p. p.items) l.packets.items));
}

use Rattle.std.proofs.Common.{◌≡◌, [], map, take, Some}
use Rattle.h26x_model.specs.Send.Calls.{all_entries}
use Rattle.h26x_model.specs.Send.PacketizerState.{PacketizerState, state_packets, after_entries, next_call}
use Rattle.h26x_model.specs.Carry.Laws.{calls_like}
use Rattle.h26x_transmission.specs.CodecStates.{codec_packetizer_state}
use Rattle.h26x_transmission.proofs.repeated.packetize_all.Given as goal

-- the payloads so far were sent
abbrev pub invariant-loop-payload : goal.invariant-loop-payload
invariant-loop-payload g l = record {
  sent : (s : PacketizerState) → codec_packetizer_state l.fn.p ≡ Some s →
      map (λ p. p.items) l.packets.items ≡ state_packets s (all_entries s.format (calls_like (next_call s l.limit []) (take l.payload-index (map (λ p. p.items) l.payloads))));
  stands : (s : PacketizerState) → codec_packetizer_state l.fn.p ≡ Some s →
      codec_packetizer_state l.p ≡ Some (after_entries s (all_entries s.format (calls_like (next_call s l.limit []) (take l.payload-index (map (λ p. p.items) l.payloads)))));
}

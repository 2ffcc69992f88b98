use Rattle.std.proofs.Common.{◌≡◌, ◌≤◌, map, take, length, vec_len, vec_capacity, Some, IsErr, All}
use Rattle.h26x_core.specs.Front.{IsFrontOf}
use Rattle.h26x_model.specs.Receive.DepacketizerState.{DepacketizerState, AreAllTaken, depacketization}
use Rattle.h26x_transmission.specs.CodecStates.{codec_depacketizer_state, codec_depacketization}
use Rattle.h26x_transmission.proofs.take.take_all.Given as goal

-- the packets so far have their outcomes
abbrev pub invariant-loop-packet : goal.invariant-loop-packet
invariant-loop-packet g l = record {
  count : vec_len l.outcomes ≡ l.packet-index;
  room : length l.packets ≤ vec_capacity l.outcomes;
  kept : IsFrontOf l.fn.out.items l.out.items;
  same_out : All (λ o. IsErr o) l.outcomes.items → l.out.items ≡ l.fn.out.items;
  same_extra : All (λ o. IsErr o) l.outcomes.items → l.extra ≡ l.fn.extra;
  same : (r : DepacketizerState) → codec_depacketizer_state l.fn.d ≡ Some r → All (λ o. IsErr o) l.outcomes.items → l.d ≡ l.fn.d;
  taken : (r : DepacketizerState) → codec_depacketizer_state l.fn.d ≡ Some r →
      AreAllTaken (depacketization r l.fn.out.items l.fn.extra) (take l.packet-index (map (λ p. p.items) l.packets)) l.outcomes.items (codec_depacketization l.d l.out.items l.extra);
}

use Rattle.std.proofs.Common.{◌≡◌, map, take, Some}
use Rattle.std.specs.List.{AllByRecursion}
use Rattle.h26x_core.specs.Front.{IsFrontOf}
use Rattle.h26x_model.specs.Payload.Reading.{IsRead}
use Rattle.h26x_model.specs.Receive.DepacketizerState.{Depacketization, after_packets}
use Rattle.h26x_transmission.specs.CodecStates.{codec_depacketization}
use Rattle.h26x_transmission.proofs.transmissions.deliver.Given as goal

-- the packets so far were taken
abbrev pub invariant-loop-packet : goal.invariant-loop-packet
invariant-loop-packet g l = record {
  kept : IsFrontOf l.fn.out.items l.out.items;
  taken : (w : Depacketization) → codec_depacketization l.fn.d l.fn.out.items l.fn.extra ≡ Some w →
      codec_depacketization l.d l.out.items l.extra ≡ Some (after_packets w (take l.packet-index (map (λ p. p.items) l.packets)));
  read : (w : Depacketization) → codec_depacketization l.fn.d l.fn.out.items l.fn.extra ≡ Some w →
      AllByRecursion (λ packet. IsRead (w.state.format.read packet)) (take l.packet-index (map (λ p. p.items) l.packets));
}

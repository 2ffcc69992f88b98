use Rattle.std.proofs.Common.{[], ◌∷◌, true, false, arith, ap, refl, sym, ◌∙◌}
use Rattle.h26x_core.specs.ByteStream.{byte_stream}
use Rattle.h26x_model.specs.Send.Calls.{fresh_call}
use Rattle.h26x_model.specs.Send.WaitingSets.{NoSet}
use Rattle.h264_payload.specs.H264.{h264}
use Rattle.h26x_codec.specs.Codec.{fresh_packetizer_state}
use Rattle.h26x_transmission.proofs.cases.some_packets.Goals as goal

pub returns-clause-some : goal.returns-clause-some
returns-clause-some c = record {
  sender = record {
    sets = record { vps = NoSet; sps = NoSet; pps = NoSet };
    small = omega arith;
    size = omega arith;
  };
  calls_are = (omega arith, (omega arith, tt));
  carried = (refl, (refl, tt));
  long = refl;
  some = refl;
}

pub returns-clause-loss : goal.returns-clause-loss
returns-clause-loss c = λ out told within.
    let it = within (fresh_packetizer_state h264)
    (fresh_call 3 (0x65 ∷ 0x01 ∷ 0x02 ∷ 0x03 ∷ []) ∷ fresh_call 9 (0x61 ∷ []) ∷ [])
    (true ∷ false ∷ true ∷ true ∷ []) refl (returns-clause-some c) in
    it.1.0 ∙ ap (byte_stream false) (sym it.0.brings)

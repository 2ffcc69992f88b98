-- What worked cases have in common.
use Rattle.std.proofs.Common.{arith}
use Rattle.h26x_model.specs.Send.PacketizerState.{IsPacketizerState}
use Rattle.h26x_model.specs.Send.WaitingSets.{NoSet}
use Rattle.h264_payload.specs.H264.{h264}
use Rattle.h26x_codec.specs.Codec.{fresh_packetizer_state}

-- a packetizer for which nothing waits is one
pub fresh_is_one : IsPacketizerState (fresh_packetizer_state h264)
fresh_is_one = record {
  sets = record { vps = NoSet; sps = NoSet; pps = NoSet };
  small = omega arith;
  size = omega arith;
}

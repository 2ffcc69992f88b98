use Rattle.std.proofs.Common.{refl, arith}
use Rattle.h26x_model.specs.Send.WaitingSets.{NoSet}
use Rattle.h26x_packetizer.proofs.packetizer.PayloadPacketizer.with_codec.Goals as goal

pub invariant_of-result : goal.invariant_of-result
invariant_of-result g c = record {
  is = record { sets = record { vps = NoSet; sps = NoSet; pps = NoSet }; small = omega arith; size = omega arith };
  none = λ _. refl;
}

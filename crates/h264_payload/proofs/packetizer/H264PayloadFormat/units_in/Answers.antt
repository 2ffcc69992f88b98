use Rattle.h26x_cut.specs.declared.ZeroRule.TheVariants.{All}
use Rattle.h26x_packetizer.proofs.SendLemmas.{units_are}
use Rattle.h264_payload.proofs.packetizer.H264PayloadFormat.units_in.Goals as goal

pub returns : goal.returns
returns c = units_are All c.args.payload.now _ c.units.ensures

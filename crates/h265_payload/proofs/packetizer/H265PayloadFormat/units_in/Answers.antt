use Rattle.h26x_cut.specs.declared.ZeroRule.TheVariants.{All}
use Rattle.h26x_packetizer.proofs.SendLemmas.{units_are}
use Rattle.h265_payload.proofs.packetizer.H265PayloadFormat.units_in.Goals as goal

pub returns : goal.returns
returns c = units_are All c.args.payload.now _ c.units.ensures

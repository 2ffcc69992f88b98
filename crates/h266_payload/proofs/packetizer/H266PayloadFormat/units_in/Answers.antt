use Rattle.h26x_cut.specs.declared.ZeroRule.TheVariants.{AtMostThree}
use Rattle.h26x_packetizer.proofs.SendLemmas.{units_are}
use Rattle.h266_payload.proofs.packetizer.H266PayloadFormat.units_in.Goals as goal

pub returns : goal.returns
returns c = units_are AtMostThree c.args.payload.now _ c.units.ensures

use Rattle.h26x_cut.proofs.LeastLemmas.{loaded}
use Rattle.h26x_cut.proofs.blocks.load.Goals as goal

pub returns : goal.returns
returns c = loaded c.args.bytes.now c.args.place c.requires

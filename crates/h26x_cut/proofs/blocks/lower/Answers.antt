use Rattle.h26x_cut.proofs.LeastLemmas.{lowered}
use Rattle.h26x_cut.proofs.blocks.lower.Goals as goal

pub returns : goal.returns
returns c bytes place next n ahead behind follows = lowered bytes place next n c.args.front c.args.back ahead behind follows

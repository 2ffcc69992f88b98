use Rattle.std.proofs.Common.{eqb-true, w8}
use Rattle.std.proofs.lemmas.Simd.{below_from_Fits}
use Rattle.h26x_cut.proofs.LeastLemmas.{quiet}
use Rattle.h26x_cut.proofs.blocks.has_no_pair.Goals as goal

pub returns : goal.returns
returns c empty bytes place least =
    quiet bytes c.args.least place least (below_from_Fits w8 c.args.least c.fits-least.1) (eqb-true _ _ empty)

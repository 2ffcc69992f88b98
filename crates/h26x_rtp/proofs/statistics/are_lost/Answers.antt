use Rattle.std.proofs.Common.{◌*◌}
use Rattle.h26x_rtp.proofs.PartLemmas.{times_test}
use Rattle.h26x_rtp.proofs.statistics.are_lost.Goals as goal

pub returns : goal.returns
returns c = rw (c.from.ensures, c.from-2.ensures, c.from-3.ensures)
    (times_test c.args.part c.args.expected (c.args.lost * 256) c.requires)

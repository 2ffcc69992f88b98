use Rattle.std.proofs.Common.{length, ap, ◌∙◌}
use Rattle.h26x_rtp.proofs.RedLemmas.{block_for_each}
use Rattle.h26x_rtp.proofs.red.RedBlocks.left.Goals as goal

pub returns : goal.returns
returns c = block_for_each c.self.inside.headers.now c.self.inside.bytes.now ∙ ap length c.self.view_is

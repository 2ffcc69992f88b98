use Rattle.h26x_fmtp.proofs.PartLemmas.{front_of_none}
use Rattle.h26x_fmtp.proofs.pairs.part_end.Goals as goal

pub loop-place-init : goal.loop-place-init
loop-place-init c = front_of_none c.args.text.now

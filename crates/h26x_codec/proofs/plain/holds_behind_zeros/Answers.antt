use Rattle.h26x_codec.proofs.PlainLemmas.{search_tells}
use Rattle.h26x_codec.proofs.plain.holds_behind_zeros.Goals as goal

pub returns : goal.returns
returns c = rw c.is_some.ensures (search_tells c.args.bytes.now c.args.byte c.find.result c.find.ensures)

use Rattle.std.proofs.Common.{arith}
use Rattle.h26x_cut.proofs.ZeroLemmas.{first_in_places, none_in_places}
use Rattle.h26x_cut.proofs.blocks.first_zeros.Goals as goal

pub returns-then-found-eq0 : goal.returns-then-found-eq0
returns-then-found-eq0 c = none_in_places 64 c.args.place c.args.bytes.now (omega (arith, c.requires)) (omega arith) c.if-found-eq0.true

pub returns-else-found-eq0 : goal.returns-else-found-eq0
returns-else-found-eq0 c = first_in_places 64 c.args.place c.args.bytes.now (omega (arith, c.requires)) (omega arith) c.if-found-eq0.false

use Rattle.std.proofs.Common.{arith, ◌+◌, ◌*◌}
use Rattle.h26x_core.proofs.PieceLemmas.{pieces_sliced}
use Rattle.h26x_core.proofs.pieces.first_piece.Goals as goal

pub returns-clause-whole : goal.returns-clause-whole
returns-clause-whole c = pieces_sliced c.args.bytes.now (c.from.result * 256 + c.from-2.result) c.requires (omega (arith, c.from.ensures, c.from-2.ensures)) (omega arith)

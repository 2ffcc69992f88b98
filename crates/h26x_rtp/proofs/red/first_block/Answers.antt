use Rattle.h26x_rtp.proofs.RedLemmas.{block_next}
use Rattle.h26x_rtp.proofs.red.first_block.Goals as goal

pub returns-clause-first : goal.returns-clause-first
returns-clause-first c = rw (c.payload_type_of.ensures, c.offset_of.ensures, c.split_at.ensures.front, c.split_at.ensures.back)
    (block_next c.args.headers.now c.args.bytes.now c.size_of-size.result c.requires.long c.size_of-size.ensures)

use Rattle.std.proofs.Common.{◌≡◌, ◌+◌, ◌≤◌, length}
use Rattle.std.specs.List.{flat_map}
use Rattle.h26x_codes.specs.Copies.{with_first}
use Rattle.h26x_rtp.specs.Red.{block_bytes}
use Rattle.h26x_c.specs.Parts.{block_places}
use Rattle.h26x_c.proofs.PartLemmas.{filled}
use Rattle.h26x_c.proofs.parts.tell_blocks.Given as goal

abbrev pub invariant-loop-block : goal.invariant-loop-block
invariant-loop-block l = record {
  told : filled l.count (block_places l.begin l.block-iterator) l.told ≡ with_first (block_places l.from l.fn.blocks) l.initial.told;
  fit : l.begin + length (flat_map block_bytes l.block-iterator) ≡ l.from + length (flat_map block_bytes l.fn.blocks);
  within : l.count ≤ length l.initial.told;
}

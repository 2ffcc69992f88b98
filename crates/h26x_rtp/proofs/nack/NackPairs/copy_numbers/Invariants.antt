use Rattle.std.proofs.Common.{◌≡◌, ◌+◌, length}
use Rattle.std.specs.List.{flat_map}
use Rattle.h26x_rtp.specs.Memory.{filled_from}
use Rattle.h26x_rtp.specs.Nack.{pair_numbers}
use Rattle.h26x_rtp.proofs.nack.NackPairs.copy_numbers.Given as goal

abbrev pub invariant-loop-pair : goal.invariant-loop-pair
invariant-loop-pair l = record {
  copied : filled_from l.count (flat_map pair_numbers l.pair-iterator) l.to ≡ filled_from 0 (flat_map pair_numbers l.self) l.initial.to;
  counted : l.count + length (flat_map pair_numbers l.pair-iterator) ≡ length (flat_map pair_numbers l.self);
}

use Rattle.std.proofs.Common.{◌≡◌, ◌+◌, ◌*◌, ◌≤◌, length}
use Rattle.std.specs.List.{flat_map}
use Rattle.h26x_rtp.specs.Memory.{overwritten}
use Rattle.h26x_rtp.specs.Nack.{pair_bytes, nack_pairs, nack_count}
use Rattle.h26x_rtp.proofs.nack.put_pairs.Given as goal

abbrev pub invariant-loop-left : goal.invariant-loop-left
invariant-loop-left l = record {
  written : overwritten l.size (flat_map pair_bytes (nack_pairs l.left l.rest)) l.to ≡ overwritten 12 (flat_map pair_bytes (nack_pairs l.most l.numbers)) l.initial.to;
  end : l.size + 4 * length (nack_pairs l.left l.rest) ≡ 12 + 4 * length (nack_pairs l.most l.numbers);
  counted : nack_count l.left l.rest + length l.numbers ≡ nack_count l.most l.numbers + length l.rest;
  room : l.size + 4 * l.left ≤ length l.to;
  within : length l.rest ≤ length l.numbers;
}

abbrev pub decreases-loop-left : goal.decreases-loop-left
decreases-loop-left l = l.left

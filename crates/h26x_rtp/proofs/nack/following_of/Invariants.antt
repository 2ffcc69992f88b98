use Rattle.std.proofs.Common.{◌≡◌, ◌+◌, ◌-◌, ◌*◌, ◌^◌, ◌<◌, ◌≤◌, length, drop}
use Rattle.h26x_core.specs.Sequence.{next_sequence_number}
use Rattle.h26x_rtp.specs.Nack.{numbers_bits, bits_count}
use Rattle.h26x_rtp.proofs.nack.following_of.Given as goal

abbrev pub invariant-loop-place : goal.invariant-loop-place
invariant-loop-place l = record {
  bits : l.following + 2 ^ l.place * numbers_bits (16 - l.place) (next_sequence_number l.number) (drop l.count l.numbers)
      ≡ numbers_bits 16 (next_sequence_number l.first) l.numbers;
  counted : l.count + bits_count (16 - l.place) (next_sequence_number l.number) (drop l.count l.numbers) ≡ bits_count 16 (next_sequence_number l.first) l.numbers;
  below : l.following < 2 ^ l.place;
  within : l.count ≤ length l.numbers;
}

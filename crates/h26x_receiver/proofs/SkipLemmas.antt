-- Numbers that bear nothing of the stream.
use Rattle.std.proofs.Common.{◌≡◌, ℕ, ◌<◌, true, false, Option, Some, None, refl, arith}
use Rattle.std.proofs.lemmas.Bool.Decides.{nat_tests}
use Rattle.h26x_core.specs.Sequence.{next_sequence_number, distance_ahead, is_late, is_expected}
use Rattle.h26x_receiver.specs.Sequenced.{SequencedDepacketization, with_expected, after_skip}

-- the number that is expected is not late
pub expected_in_time : (expected : Option ℕ) (number : ℕ) → number < 65536 → is_expected expected number ≡ true → is_late expected number ≡ false
expected_in_time None number small is = absurd (let bad = is in cc)
expected_in_time (Some e) number small is =
    let same : number ≡ e = grind (arith, nat_tests) in
    let none : distance_ahead e number ≡ 0 = omega (arith, same, small) in
    rw none refl

-- so in order only what is expected changes
pub skipped_in_order : (s : SequencedDepacketization) (number : ℕ) → number < 65536 → is_expected s.expected number ≡ true →
    after_skip s number ≡ with_expected s.at_work (Some (next_sequence_number number))
skipped_in_order s number small is = let timely = expected_in_time s.expected number small is in rw (timely, is) refl

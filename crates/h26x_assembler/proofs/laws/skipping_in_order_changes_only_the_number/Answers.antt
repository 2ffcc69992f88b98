use Rattle.std.proofs.Common.{refl}
use Rattle.h26x_receiver.proofs.SkipLemmas.{expected_in_time}
use Rattle.h26x_assembler.proofs.laws.skipping_in_order_changes_only_the_number.Goals as goal

pub returns : goal.returns
returns c = λ s number small is. let timely = expected_in_time s.expected number small is in rw (timely, is) refl

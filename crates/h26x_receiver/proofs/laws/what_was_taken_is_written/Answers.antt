use Rattle.std.proofs.Common.{refl}
use Rattle.h26x_receiver.proofs.DeliveryLemmas.{taken_written}
use Rattle.h26x_receiver.proofs.laws.what_was_taken_is_written.Goals as goal

pub returns : goal.returns
returns c = λ most w ok packets answers each. taken_written most w packets answers _ c.what_came_is_written.ensures ok (record { each = each; stands = refl })

use Rattle.h26x_model.proofs.CodecLawLemmas.{calls_numbered, calls_detected}
use Rattle.h26x_model.proofs.laws.what_calls_send_is_in_order_and_detected.Goals as goal

pub returns : goal.returns
returns c = record { dons = calls_numbered; detected = calls_detected }

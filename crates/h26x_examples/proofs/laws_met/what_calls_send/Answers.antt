use Rattle.std.proofs.Common.{refl}
use Rattle.h26x_examples.proofs.laws_met.what_calls_send.Goals as goal

pub returns-clause-detected : goal.returns-clause-detected
returns-clause-detected c = c.key_units_are_detected.ensures

pub returns-clause-again : goal.returns-clause-again
returns-clause-again c = λ codec has_donl limit units kept. c.what_was_sent_is_sent_again.ensures codec has_donl limit units _ kept refl

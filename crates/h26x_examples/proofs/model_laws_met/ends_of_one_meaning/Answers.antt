use Rattle.std.proofs.Common.{ap}
use Rattle.h26x_model.specs.Receive.DepacketizerState.{DepacketizerState, units_brought}
use Rattle.h26x_examples.proofs.model_laws_met.ends_of_one_meaning.Goals as goal

pub returns-clause-brought : goal.returns-clause-brought
returns-clause-brought c = λ a b packets same means.
    ap (λ (s : DepacketizerState). units_brought s packets) (c.equal_meanings_are_equal_states.ensures.depacketizers a b same means)

pub returns-clause-waits : goal.returns-clause-waits
returns-clause-waits c = λ a b same skipped is is_too means. (c.equal_meanings_are_equal_states.ensures.packetizers a b same skipped is is_too means).waiting

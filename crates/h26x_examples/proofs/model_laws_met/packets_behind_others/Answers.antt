use Rattle.std.proofs.Common.{◌∙◌, ap, ℕ, List, Option, true}
use Rattle.h26x_model.specs.Payload.Reading.{Fragment}
use Rattle.h26x_model.specs.Receive.DepacketizerState.{readings_units}
use Rattle.h26x_examples.proofs.model_laws_met.packets_behind_others.Goals as goal

pub returns-clause-alone : goal.returns-clause-alone
returns-clause-alone c = λ earlier readings none. c.received_from_a_run.ensures earlier readings ∙ ap (λ (run : Option (List ℕ)). readings_units run readings) none

pub returns-clause-last : goal.returns-clause-last
returns-clause-last c = λ earlier start head body don. c.the_next_by_its_place.ensures earlier (Fragment start true head don body)

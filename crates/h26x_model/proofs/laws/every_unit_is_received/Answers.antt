use Rattle.h26x_model.proofs.EveryReceivedLemmas.{brings_every_unit, sends_every_unit}
use Rattle.h26x_model.proofs.laws.every_unit_is_received.Goals as goal

pub returns-clause-brings : goal.returns-clause-brings
returns-clause-brings c = λ f packs. brings_every_unit f packs.reads

pub returns-clause-sends : goal.returns-clause-sends
returns-clause-sends c = λ f packs. sends_every_unit f packs.reads

use Rattle.h26x_model.proofs.AgainLemmas as lemmas
use Rattle.h26x_model.proofs.laws.plans_call_by_call.Goals as goal

pub returns : goal.returns
returns c = record { plan = lemmas.plans_call_by_call; waits = lemmas.waits_call_by_call }

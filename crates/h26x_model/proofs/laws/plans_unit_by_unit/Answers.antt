use Rattle.std.proofs.Common.{ap}
use Rattle.h26x_model.specs.Send.WaitingSets.{sets_waiting}
use Rattle.h26x_model.proofs.WaitLemmas.{plan-with, waits-with, plan-waiting, waits-waiting, sets_stay_all}
use Rattle.h26x_model.proofs.laws.plans_unit_by_unit.Goals as goal

pub returns : goal.returns
returns c = record { plan = plan-with; waits = λ f entries. ap sets_waiting (waits-with f entries); plan_with = plan-waiting; waits_with = waits-waiting; sets = sets_stay_all }

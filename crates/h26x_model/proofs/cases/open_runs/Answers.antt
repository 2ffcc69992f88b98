use Rattle.std.proofs.Common.{refl}
use Rattle.h26x_model.proofs.RunLemmas.{is_open_run, open_run_is}
use Rattle.h26x_model.proofs.cases.open_runs.Goals as goal

pub returns-clause-runs : goal.returns-clause-runs
returns-clause-runs c = is_open_run _ _ refl

pub returns-clause-no_data : goal.returns-clause-no_data
returns-clause-no_data c = is_open_run _ _ refl

pub returns-clause-ended : goal.returns-clause-ended
returns-clause-ended c = λ run is_open. let same = open_run_is _ run is_open in cc

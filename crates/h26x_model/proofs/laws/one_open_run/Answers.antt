use Rattle.h26x_model.proofs.RunLemmas.{is_open_run, open_run_is}
use Rattle.h26x_model.proofs.laws.one_open_run.Goals as goal

pub returns : goal.returns
returns c = record { computed = is_open_run; only = open_run_is }

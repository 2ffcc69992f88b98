use Rattle.h26x_model.proofs.GapLemmas.{run_grows}
use Rattle.h26x_model.proofs.laws.runs_grow_by_their_packets.Goals as goal

pub returns : goal.returns
returns c = run_grows

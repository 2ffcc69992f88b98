use Rattle.h26x_fmtp.proofs.RepairMapLemmas.{repair_map_back}
use Rattle.h26x_fmtp.proofs.laws.what_is_written_of_a_repair_map_is_read.Goals as goal

pub returns : goal.returns
returns c = repair_map_back

use Rattle.h266_payload.proofs.LowestLemmas.{is_headed}
use Rattle.h266_payload.proofs.laws.aggregates_have_the_header_of_their_sets.Goals as goal

pub returns : goal.returns
returns c = is_headed

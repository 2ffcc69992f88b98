use Rattle.h265_payload.proofs.LowestLemmas.{is_headed}
use Rattle.h265_payload.proofs.laws.lowest_headers_are_of_the_units.Goals as goal

pub returns : goal.returns
returns c = is_headed

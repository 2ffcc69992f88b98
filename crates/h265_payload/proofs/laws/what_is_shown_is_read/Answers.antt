use Rattle.h265_payload.proofs.ShowsLemmas.{shows_reading}
use Rattle.h265_payload.proofs.laws.what_is_shown_is_read.Goals as goal

pub returns : goal.returns
returns c = shows_reading

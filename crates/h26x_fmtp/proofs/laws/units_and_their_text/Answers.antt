use Rattle.h26x_fmtp.proofs.UnitsLemmas.{units_written, units_read}
use Rattle.h26x_fmtp.proofs.laws.units_and_their_text.Goals as goal

pub returns : goal.returns
returns c = record { read = units_written; written = units_read }

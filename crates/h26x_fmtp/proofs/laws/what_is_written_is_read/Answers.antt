use Rattle.h26x_fmtp.proofs.WrittenLemmas.{pairs_written, written_closes, written_behind}
use Rattle.h26x_fmtp.proofs.laws.what_is_written_is_read.Goals as goal

pub returns : goal.returns
returns c = record { same = pairs_written; closes = written_closes; more = written_behind }

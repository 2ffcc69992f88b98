use Rattle.h26x_fmtp.proofs.FixedLemmas.{read_are, read_fixed}
use Rattle.h26x_fmtp.proofs.laws.what_is_read_of_a_table_is_written.Goals as goal

pub returns : goal.returns
returns c = record { parameters = read_are; again = read_fixed }

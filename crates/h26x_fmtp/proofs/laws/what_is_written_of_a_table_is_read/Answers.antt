use Rattle.h26x_fmtp.proofs.AgainLemmas.{read_again}
use Rattle.h26x_fmtp.proofs.laws.what_is_written_of_a_table_is_read.Goals as goal

pub returns : goal.returns
returns c = record { same = read_again }

use Rattle.h26x_rtp.proofs.NackLawLemmas.{written_nack_read, pairs_again, some_asked, all_asked}
use Rattle.h26x_rtp.proofs.laws.written_nacks_ask_for_their_numbers.Goals as goal

pub returns : goal.returns
returns c = record { read = written_nack_read; asked = pairs_again; some = some_asked; all = all_asked }

use Rattle.h26x_access_units.specs.WholeSent.{nothing_written}
use Rattle.h26x_access_units.proofs.ToldSentLemmas.{told_was_sent}
use Rattle.h26x_access_units.proofs.laws.what_is_told_whole_was_sent_in_any_session.Goals as goal

pub returns : goal.returns
returns c = λ config state now unit calls s sent first due are ok sender of whole.
    told_was_sent config state now unit calls s sent first due are (c.depacketizers_go_on.ensures (nothing_written state) ok) sender of whole

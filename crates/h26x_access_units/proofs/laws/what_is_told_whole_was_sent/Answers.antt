use Rattle.h26x_access_units.specs.WholeSent.{nothing_written}
use Rattle.h26x_access_units.proofs.RestartLemmas.{told_whole_sent}
use Rattle.h26x_access_units.proofs.laws.what_is_told_whole_was_sent.Goals as goal

pub returns : goal.returns
returns c = λ config state now unit calls s sent first ok are from whole.
    told_whole_sent config state now unit calls s sent first (c.depacketizers_go_on.ensures (nothing_written state) ok) are from whole

use Rattle.h26x_access_units.specs.WholeSent.{nothing_written}
use Rattle.h26x_access_units.specs.ToldWhole.{all_deeds}
use Rattle.h26x_access_units.proofs.ToldCallLemmas.{taken_told_whole}
use Rattle.h26x_access_units.proofs.LosslessLemmas.{lossless_taken}
use Rattle.h26x_access_units.proofs.laws.access_units_without_loss_are_told_whole.Goals as goal

pub returns : goal.returns
returns c = λ config state calls s sent first place count due are ok sender of unit taken written empty.
    taken_told_whole config state calls s sent first place count due are (c.depacketizers_go_on.ensures (nothing_written state) ok) sender of unit (lossless_taken state sent first place count (all_deeds are) unit taken) written empty

use Rattle.std.proofs.Common.{false, [], None, Ok, refl}
use Rattle.h26x_receiver.specs.declared.received.Received.TheVariants.{InOrder}
use Rattle.h26x_reorder.specs.Rtp.{rtp_body}
use Rattle.h26x_assembler.specs.AccessUnit.{none_open, open_assembly}
use Rattle.h26x_access_units.specs.Framing.{fresh_framing}
use Rattle.h26x_access_units.specs.Account.{new_assembler, one_taken, number_told}
use Rattle.h26x_access_units.proofs.account_cases.assemblers_of_packets.Goals as goal

pub returns-clause-skipped : goal.returns-clause-skipped
returns-clause-skipped c state = one_taken 0 0 fresh_framing (7, rtp_body 0 false []) (Ok InOrder) [] (open_assembly state None none_open []) new_assembler refl (λ bad. cc)

pub returns-clause-told : goal.returns-clause-told
returns-clause-told c state = number_told 7 [] (open_assembly state None none_open []) new_assembler

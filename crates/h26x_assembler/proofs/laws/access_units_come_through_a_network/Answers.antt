use Rattle.std.proofs.Common.{refl}
use Rattle.h26x_assembler.proofs.ReceivedLemmas.{units_brought_by}
use Rattle.h26x_assembler.proofs.laws.access_units_come_through_a_network.Goals as goal

pub returns : goal.returns
returns c = λ window most limit w some half ok start packets answers each.
    units_brought_by window most limit w packets answers _ c.nothing_is_damaged.ensures (λ s fine is. c.packetizers_go_on.ensures.goes_on s fine.limits fine.dons is)
    some half ok start (record { each = each; stands = refl })

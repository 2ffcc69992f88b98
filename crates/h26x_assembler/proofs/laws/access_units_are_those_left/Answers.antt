use Rattle.h26x_assembler.proofs.OrderedLemmas.{come_in_order}
use Rattle.h26x_assembler.proofs.laws.access_units_are_those_left.Goals as goal

pub returns : goal.returns
returns c = λ most limit w ok start packets answers each none.
    come_in_order most limit w packets answers c.nothing_is_damaged.ensures (λ s fine is. c.packetizers_go_on.ensures.goes_on s fine.limits fine.dons is) ok start each none

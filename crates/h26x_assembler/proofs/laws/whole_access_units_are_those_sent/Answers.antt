use Rattle.h26x_assembler.proofs.WholeLemmas.{all_left}
use Rattle.h26x_assembler.proofs.laws.whole_access_units_are_those_sent.Goals as goal

pub returns : goal.returns
returns c = λ most s avc calls ok it before closed mask long.
    all_left most s avc before closed calls mask c.nothing_is_damaged.ensures (λ s fine is. c.packetizers_go_on.ensures.goes_on s fine.limits fine.dons is)
    c.depacketizers_go_on.ensures c.what_calls_send_is_carried.ensures ok it long

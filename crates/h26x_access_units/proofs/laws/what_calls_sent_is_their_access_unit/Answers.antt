use Rattle.h26x_access_units.proofs.UnitsSentLemmas.{calls_unit}
use Rattle.h26x_access_units.proofs.laws.what_calls_sent_is_their_access_unit.Goals as goal

pub returns : goal.returns
returns c = λ s calls r first unit ok same it apart was.
    calls_unit s calls r first unit (λ t fine is. c.packetizers_go_on.ensures.goes_on t fine.limits fine.dons is) c.what_calls_send_is_carried.ensures ok same it apart was

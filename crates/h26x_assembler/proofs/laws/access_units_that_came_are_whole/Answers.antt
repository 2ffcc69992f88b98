use Rattle.h26x_assembler.proofs.WholeLemmas.{left_whole}
use Rattle.h26x_assembler.proofs.laws.access_units_that_came_are_whole.Goals as goal

pub returns : goal.returns
returns c = λ most s avc call mask ok it.
    left_whole most s avc call mask c.nothing_is_damaged.ensures c.depacketizers_go_on.ensures c.what_calls_send_is_carried.ensures c.runs_grow_by_their_packets.ensures
    ok it.sender it.calls_are it.carried

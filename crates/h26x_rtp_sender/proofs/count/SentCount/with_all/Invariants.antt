use Rattle.std.proofs.Common.{◌≡◌}
use Rattle.h26x_packetizer.specs.Buffer.{packets_from}
use Rattle.h26x_rtp_sender.specs.Sending.{count_with_all}
use Rattle.h26x_rtp_sender.proofs.count.SentCount.with_all.Given as goal

abbrev pub invariant-loop-payload : goal.invariant-loop-payload
invariant-loop-payload l =
    count_with_all l.payload-iterator l.count ≡ count_with_all (packets_from l.headroom 0 l.bytes l.ends) l.fn.self

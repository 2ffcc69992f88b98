use Rattle.std.proofs.Common.{◌≡◌, drop}
use Rattle.h26x_rtp_sender.specs.InMemory as spec
use Rattle.h26x_rtp_sender.proofs.payloads.are_in_memory.Given as goal

abbrev pub invariant-loop-end : goal.invariant-loop-end
invariant-loop-end l = spec.are_in_memory l.headroom l.start l.size (drop l.end-index l.ends) ≡ spec.are_in_memory l.headroom 0 l.size l.ends

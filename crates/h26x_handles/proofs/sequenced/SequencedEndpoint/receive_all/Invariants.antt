use Rattle.std.proofs.Common.{◌≡◌, map}
use Rattle.h26x_handles.specs.Payloads.{numbered_in}
use Rattle.h26x_handles.proofs.ReceiveAllLemmas.{AreReceivedSoFar}
use Rattle.h26x_handles.proofs.sequenced.SequencedEndpoint.receive_all.Given as goal

-- those before this one were received, and what they completed had room
abbrev pub invariant-loop-it : goal.invariant-loop-it
invariant-loop-it l = record {
  place : l.taken ≡ l.it-index;
  received : AreReceivedSoFar (map (numbered_in l.bytes) l.payloads) l.fn.self l.self l.fn.to l.to l.fn.told l.told l.taken l.written;
}

use Rattle.std.proofs.Common.{◌≡◌, ◌<◌, ℕ, List, true, None}
use Rattle.h26x_model.specs.Send.WaitingSets.{plan_with_waiting, waiting_after, entries_with_limit}
use Rattle.h26x_packetizer.specs.Sending.{ArePushed, waiting_with_brought}
use Rattle.h26x_model.specs.Send.PacketizerState.{are_skipped}
use Rattle.h26x_packetizer.proofs.packetizer.PayloadPacketizer.push_payload.Given as goal

-- what comes behind what is made is all, and so it is with the sets that wait
abbrev pub invariant-loop-unit : goal.invariant-loop-unit
invariant-loop-unit g l = record {
  small : l.don < 65536;
  sent : (after : List (List ℕ)) (next : ℕ) →
      ArePushed (g.C.PayloadFormat.format l.self.codec) l.don (plan_with_waiting (g.C.PayloadFormat.format l.self.codec) (waiting_with_brought l.self.waiting l.brought) (entries_with_limit l.limit l.unit-iterator)) (g.S.PacketSink.packets l.made) after next →
      ArePushed (g.C.PayloadFormat.format l.self.codec) l.self.next_don (plan_with_waiting (g.C.PayloadFormat.format l.self.codec) l.self.waiting (entries_with_limit l.limit ((g.C.PayloadFormat.format l.self.codec).units l.b))) (g.S.PacketSink.packets l.fn.made) after next;
  before : g.S.PacketSink.before l.made ≡ g.S.PacketSink.before l.fn.made;
  waits : waiting_after (g.C.PayloadFormat.format l.self.codec) (waiting_with_brought l.self.waiting l.brought) (entries_with_limit l.limit l.unit-iterator)
      ≡ waiting_after (g.C.PayloadFormat.format l.self.codec) l.self.waiting (entries_with_limit l.limit ((g.C.PayloadFormat.format l.self.codec).units l.b));
  skipped : are_skipped (g.C.PayloadFormat.format l.self.codec) ((g.C.PayloadFormat.format l.self.codec).units l.b) ≡ true → (are_skipped (g.C.PayloadFormat.format l.self.codec) l.unit-iterator ≡ true) × (l.brought.vps ≡ None) × (l.brought.sps ≡ None) × (l.brought.pps ≡ None);
}

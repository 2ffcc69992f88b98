use Rattle.std.proofs.Common.{◌≡◌, ◌++◌, map, take}
use Rattle.h26x_packetizer.proofs.buffer.Appending.push_packets.Given as goal

-- the packets so far stand behind those of before
abbrev pub invariant-loop-packet : goal.invariant-loop-packet
invariant-loop-packet l = record {
  pushed : l.self.after ≡ l.fn.self.after ++ take l.packet-index (map (λ p. p.items) l.packets);
  before : l.self.before ≡ l.fn.self.before;
}

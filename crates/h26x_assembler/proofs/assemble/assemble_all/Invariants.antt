use Rattle.std.proofs.Common.{◌≡◌, ◌≤◌, None, map, take, length, vec_len, vec_capacity}
use Rattle.h26x_model.specs.Receive.RunLimit.{run_len}
use Rattle.h26x_receiver.specs.Sequenced.{having_taken_all}
use Rattle.h26x_assembler.specs.AccessUnit.{access_unit_value, open_assembly, unit_len, AreAssembled}
use Rattle.h26x_assembler.proofs.assemble.assemble_all.Given as goal

-- the packets so far have their answers
abbrev pub invariant-loop-packet : goal.invariant-loop-packet
invariant-loop-packet g l = record {
  count : vec_len l.answers ≡ l.packet-index;
  room : length l.packet-items ≤ vec_capacity l.answers;
  limit : l.assembler.packets.run_limit ≡ l.fn.assembler.packets.run_limit;
  bounded : run_len l.fn.assembler.unit.run ≤ l.fn.assembler.packets.run_limit → run_len l.assembler.unit.run ≤ l.fn.assembler.packets.run_limit;
  unit_limit : l.assembler.unit_limit ≡ l.fn.assembler.unit_limit;
  bounded_unit : unit_len l.fn.assembler.unit.unit ≤ l.fn.assembler.unit_limit → unit_len l.assembler.unit.unit ≤ l.fn.assembler.unit_limit;
  rest : g.D.RunDepacketizer.with_run None l.assembler.packets.depacketizer ≡ g.D.RunDepacketizer.with_run None (having_taken_all g.D.RunDepacketizer.having_taken
      (take l.packet-index (map (λ p. p.1.payload) (map (λ p. p.now) l.packet-items))) l.answers.items l.fn.assembler.packets.depacketizer);
  received : AreAssembled l.fn.assembler.packets.run_limit l.fn.assembler.unit_limit
      (open_assembly (g.D.RunDepacketizer.state l.fn.assembler.packets.depacketizer) l.fn.assembler.packets.expected l.fn.assembler.unit (map access_unit_value l.fn.out.items))
      (take l.packet-index (map (λ p. p.now) l.packet-items)) l.answers.items
      (open_assembly (g.D.RunDepacketizer.state l.assembler.packets.depacketizer) l.assembler.packets.expected l.assembler.unit (map access_unit_value l.out.items));
}

use Rattle.std.proofs.Common.{◌≡◌, ◌≤◌, None, map, take, length, vec_len, vec_capacity}
use Rattle.h26x_core.specs.Front.{IsFrontOf}
use Rattle.h26x_model.specs.Receive.RunLimit.{run_len}
use Rattle.h26x_receiver.specs.Delivery.{sequenced_packets}
use Rattle.h26x_receiver.specs.Sequenced.{sequenced_depacketization, AreAllReceived, having_taken_all}
use Rattle.h26x_receiver.proofs.delivery.receive_all.Given as goal

-- the packets so far have their answers
abbrev pub invariant-loop-sequence : goal.invariant-loop-sequence
invariant-loop-sequence g l = record {
  count : vec_len l.answers ≡ l.sequence-index;
  room : length l.packets ≤ vec_capacity l.answers;
  front : IsFrontOf l.fn.out.items l.out.items;
  limit : l.receiver.run_limit ≡ l.fn.receiver.run_limit;
  bounded : run_len (g.D.RunDepacketizer.state l.fn.receiver.depacketizer).run ≤ l.fn.receiver.run_limit →
      run_len (g.D.RunDepacketizer.state l.receiver.depacketizer).run ≤ l.fn.receiver.run_limit;
  rest : g.D.RunDepacketizer.with_run None l.receiver.depacketizer ≡ g.D.RunDepacketizer.with_run None (having_taken_all g.D.RunDepacketizer.having_taken
      (take l.sequence-index (map (λ p. p.1) (sequenced_packets l.packets))) l.answers.items l.fn.receiver.depacketizer);
  received : AreAllReceived l.fn.receiver.run_limit (sequenced_depacketization (g.D.RunDepacketizer.state l.fn.receiver.depacketizer) l.fn.receiver.expected l.fn.out.items l.fn.codec_extra)
      (take l.sequence-index (sequenced_packets l.packets)) l.answers.items
      (sequenced_depacketization (g.D.RunDepacketizer.state l.receiver.depacketizer) l.receiver.expected l.out.items l.codec_extra);
}

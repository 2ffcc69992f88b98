use Rattle.std.proofs.Common.{rules, Ok, ◌≡◌, List, ℕ, length, take, subst}
use Rattle.h26x_depacketizer.specs.UnitSink.{memory_sink, grown_to}
use Rattle.h26x_codes.specs.Copies.{with_front}
use Rattle.h26x_handles.specs.States.{after_receiver_packet, receiver_at_work}
use Rattle.h26x_codec.specs.AnyDepacketizer.{any_depacketizer_state}
use Rattle.h26x_receiver.specs.Sequenced.{sequenced_depacketization}
use Rattle.h26x_handles.proofs.MemoryLemmas.{written_to_front, run_stands}
use Rattle.h26x_handles.proofs.sequenced.SequencedEndpoint.receive_counted.Goals as goal

-- what the memory holds is what stands once the packet was taken
pub returns-then-is_taken-clause-given : goal.returns-then-is_taken-clause-given
returns-then-is_taken-clause-given c = λ taken.
    let out = c.receive.new.out in
    let all = (after_receiver_packet c.args.self.now c.args.extra.now c.args.sequence c.args.packet.now).at_work.out in
    let units : take out.len out.to.now ≡ all = search rules in
    let lengths : length out.to.now ≡ length c.args.to.now = search rules in
    let grown : memory_sink out.len out.to.now out.to.ghost_name ≡ grown_to (take out.len out.to.now) (memory_sink 0 c.args.to.now c.new-memory.result.to.ghost_name) =
    rw (c.new-memory.ensures.len, c.new-memory.ensures.memory) at c.receive.ensures.behind in
    let put = written_to_front out.len c.args.to.now out.to.now _ _ out.within lengths grown in
    let there : out.to.now ≡ with_front all c.args.to.now = subst (λ (xs : List ℕ). out.to.now ≡ with_front xs c.args.to.now) units put in
    search rules

-- so it is where they had no room there
pub returns-clause-run : goal.returns-clause-run
returns-clause-run c = λ taken.
    let again = sequenced_depacketization (any_depacketizer_state c.receive.new.self.depacketizer) c.receive.new.self.expected c.clear-2.new.self.items c.receive.new.codec_extra in
    let same : again ≡ receiver_at_work c.args.self.now c.args.extra.now = search rules in
    let limit : c.receive.new.self.run_limit ≡ c.args.self.now.run_limit = search rules in
    run_stands _ _ _ again _ _ _ (Ok c.in_ok-received.received) taken limit same c.in_ok-received.ensures.after

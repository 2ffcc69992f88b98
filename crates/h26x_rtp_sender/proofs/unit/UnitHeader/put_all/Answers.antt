use Rattle.std.proofs.Common.{◌≡◌, ◌<◌, ◌+◌, ◌==◌, ℕ, List, false, length, drop, sym, ap, ◌∙◌}
use Rattle.h26x_core.specs.Sequence.{next_sequence_number}
use Rattle.h26x_packetizer.specs.Buffer.{PacketBufferView, headed_at}
use Rattle.h26x_rtp.specs.Datagram.{datagram_header}
use Rattle.h26x_rtp_sender.specs.Sent.{unit_view, packet_header, packet_headers}
use Rattle.h26x_rtp_sender.specs.Sending.{headed_from}
use Rattle.h26x_rtp_sender.proofs.UnitLemmas.{heads_step}
use Rattle.h26x_rtp_sender.proofs.unit.UnitHeader.put_all.Goals as goal

pub loop-place-preserved : goal.loop-place-preserved
loop-place-preserved c =
    let at = c.loop-place in
    let all = c.args.packets.now.packets in
    let u = unit_view c.args.self in
    let head = λ (n : ℕ). headed_at at.place (datagram_header (packet_header u at.sequence (at.place + 1 == n)) false) at.packets.headrooms in
    let count : c.len-count.result ≡ length all = c.len-count.ensures.packets in
    let within : at.place < length all = rw (sym count) c.loop-place-test.true in
    let put : c.put.new.packets ≡ record at.packets { headrooms = head c.len-count.result } = c.put.ensures in
    let rooms : c.put.new.packets.headrooms ≡ head c.len-count.result = ap (λ (b : PacketBufferView). b.headrooms) put in
    let rest = packet_headers u (next_sequence_number at.sequence) (drop (at.place + 1) all) in
    record {
      headrooms = ap (headed_from (at.place + 1) rest) (rooms ∙ ap head count) ∙ sym (heads_step u at.sequence at.place all at.packets.headrooms within) ∙ at.invariant.headrooms;
      else = put ∙ ap (λ (r : List (List ℕ)). record at.packets { headrooms = r }) (sym rooms)
          ∙ ap (λ (b : PacketBufferView). record b { headrooms = c.put.new.packets.headrooms }) at.invariant.else;
    }

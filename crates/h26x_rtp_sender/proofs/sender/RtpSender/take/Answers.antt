use Rattle.std.proofs.Common.{rules, ◌≡◌, ◌+◌, ◌%◌, ◌<◌, length, sym, ap, ◌∙◌}
use Rattle.h26x_packetizer.specs.Buffer.{packets_from}
use Rattle.h26x_rtp_sender.specs.declared.stream.RtpStream.{RtpStream}
use Rattle.h26x_rtp_sender.specs.Sent.{unit_view}
use Rattle.h26x_rtp_sender.proofs.EndLemmas.{packets_count}
use Rattle.h26x_rtp_sender.proofs.NumberLemmas.{unit_held}
use Rattle.h26x_rtp_sender.proofs.sender.RtpSender.take.Goals as goal

pub invariant_of-self-2 : goal.invariant_of-self-2
invariant_of-self-2 c =
    let history = c.self.inside.history in
    let first = c.self.inside.media.sequence in
    let payloads = packets_from c.args.headroom 0 c.args.bytes.now c.args.ends.now in
    let count = packets_count c.args.headroom 0 c.args.bytes.now c.args.ends.now in
    let fits : first < 65536 = search rules in
    let number : c.behind-self-inside.result.sequence ≡ (first + length payloads) % 65536 =
    ap (λ (s : RtpStream). s.sequence) c.behind-self-inside.ensures ∙ ap (λ k. (first + k) % 65536) (sym count) in
    rw (number, c.in_ok-take.ensures.taken, c.in_ok-made.ensures) (unit_held (unit_view c.args.unit) history.bound first payloads history.packets fits c.self.invariant)

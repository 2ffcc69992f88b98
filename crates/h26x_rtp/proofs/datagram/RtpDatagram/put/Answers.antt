use Rattle.std.proofs.Common.{◌+◌, length, ap, ◌∙◌, arith}
use Rattle.h26x_rtp.specs.Datagram.{datagram_header, is_there}
use Rattle.h26x_rtp.specs.Memory.{overwritten}
use Rattle.h26x_rtp.specs.Views.{header_view}
use Rattle.h26x_rtp.proofs.MemoryLemmas.{written_thrice}
use Rattle.h26x_rtp.proofs.datagram.RtpDatagram.put.Goals as goal

pub returns : goal.returns
returns c =
    let it = header_view c.args.self.header in
    written_thrice 0 c.put-behind.result c.put-behind-2.result (datagram_header it (is_there c.args.self.padding.now)) c.args.self.payload.now c.args.self.padding.now
    c.args.to.now c.put-behind.new.to c.put-behind-2.new.to c.put.new.to
    (c.put-behind.ensures.written ∙ ap (λ padded. overwritten 0 (datagram_header it padded) c.args.to.now) c.is_there.ensures)
    (c.put-behind.ensures.end ∙ ap (λ padded. 0 + length (datagram_header it padded)) c.is_there.ensures)
    c.put-behind-2.ensures.written c.put-behind-2.ensures.end c.put.ensures.written (omega (arith, c.requires.room))

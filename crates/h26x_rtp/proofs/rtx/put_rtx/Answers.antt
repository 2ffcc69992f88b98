use Rattle.std.proofs.Common.{false, ◌+◌, length, ap, ◌∙◌, arith}
use Rattle.h26x_core.specs.Word.{word}
use Rattle.h26x_rtp.specs.Datagram.{datagram_header}
use Rattle.h26x_rtp.specs.Memory.{overwritten}
use Rattle.h26x_rtp.specs.Views.{header_view}
use Rattle.h26x_rtp.proofs.MemoryLemmas.{written_thrice}
use Rattle.h26x_rtp.proofs.rtx.put_rtx.Goals as goal

pub returns : goal.returns
returns c =
    let it = header_view c.args.header in
    written_thrice 0 c.put-behind.result c.put-behind-2.result (datagram_header it false) (word c.args.sequence) c.args.payload.now
    c.args.to.now c.put-behind.new.to c.put-behind-2.new.to c.put.new.to
    c.put-behind.ensures.written c.put-behind.ensures.end
    (c.put-behind-2.ensures.written ∙ ap (λ bytes. overwritten c.put-behind.result bytes c.put-behind.new.to) c.to_be_bytes.ensures)
    (c.put-behind-2.ensures.end ∙ ap (λ bytes. c.put-behind.result + length bytes) c.to_be_bytes.ensures)
    c.put.ensures.written (omega (arith, c.requires.room))

use Rattle.std.proofs.Common.{◌+◌, length, ap, ◌∙◌}
use Rattle.h26x_rtp.specs.Datagram.{fixed_bytes, extension_bytes}
use Rattle.h26x_rtp.specs.Memory.{overwritten}
use Rattle.h26x_rtp.specs.Views.{header_view}
use Rattle.h26x_rtp.proofs.MemoryLemmas.{written_thrice}
use Rattle.h26x_rtp.proofs.header.RtpHeader.put.Goals as goal

pub returns-clause-written : goal.returns-clause-written
returns-clause-written c =
    let it = header_view c.args.self in
    written_thrice c.args.place c.put-behind.result c.put-behind-2.result (fixed_bytes it c.args.padded) it.csrcs (extension_bytes it.extension)
    c.args.to.now c.put-behind.new.to c.put-behind-2.new.to c.put_extension.new.to
    (c.put-behind.ensures.written ∙ ap (λ bytes. overwritten c.args.place bytes c.args.to.now) c.fixed.ensures)
    (c.put-behind.ensures.end ∙ ap (λ bytes. c.args.place + length bytes) c.fixed.ensures)
    c.put-behind-2.ensures.written c.put-behind-2.ensures.end c.put_extension.ensures.written c.requires.room

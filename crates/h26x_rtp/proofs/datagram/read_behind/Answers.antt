use Rattle.std.specs.Option.{option_map}
use Rattle.h26x_rtp.specs.Views.{extension_view}
use Rattle.h26x_rtp.proofs.ReadingLemmas.{behind_ok}
use Rattle.h26x_rtp.proofs.datagram.read_behind.Goals as goal

pub returns : goal.returns
returns c = rw c.header_of-header.ensures (behind_ok c.args.bytes.now c.args.rest.now c.csrcs_size-size.result (c.in_ok-csrcs.csrcs.now, c.in_ok-csrcs.rest.now)
    (option_map extension_view c.in_ok-extension.extension, c.in_ok-extension.rest.now) (c.in_ok-payload.payload.now, c.in_ok-payload.padding.now)
    c.csrcs_size-size.ensures c.in_ok-csrcs.ensures (rw (← c.is_extended.ensures) c.in_ok-extension.ensures) (rw (← c.is_padded.ensures) c.in_ok-payload.ensures))

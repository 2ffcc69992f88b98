use Rattle.std.proofs.Common.{sym, ap, ◌∙◌}
use Rattle.h26x_endpoint.specs.EndpointStates.{endpoint_rtp_open}
use Rattle.h26x_c.proofs.so_far.h26x_rtp_receiver_so_far.Goals as goal

-- src/so_far.rt
pub returns-in-RtpReceiver-clause-shown : goal.returns-in-RtpReceiver-clause-shown
returns-in-RtpReceiver-clause-shown c = λ a is. c.show.ensures.shown a
    (c.units_so_far.ensures ∙ sym (ap endpoint_rtp_open c.in-RtpReceiver.is) ∙ ap endpoint_rtp_open c.get.ensures ∙ is)

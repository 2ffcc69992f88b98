-- An endpoint that receives datagrams, by what it is to contracts.
use Rattle.h26x_handles.specs.RtpState.{RtpState}
use Rattle.h26x_handles.specs.contracts.rtp_receiver.RtpReceiverEndpointGivesRtpUnits.TheImpl.{ghosts}
use Rattle.h26x_handles.specs.declared.rtp_receiver.RtpReceiverEndpoint.{RtpReceiverEndpoint}

-- what a receiver of datagrams is to contracts
abbrev pub rtp_state_of : RtpReceiverEndpoint → RtpState
rtp_state_of = ghosts.rtp

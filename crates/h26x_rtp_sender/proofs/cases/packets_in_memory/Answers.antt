use Rattle.std.proofs.Common.{false, refl, inr, arith}
use Rattle.h26x_rtp.specs.Datagram.{HeaderFits}
use Rattle.h26x_rtp_sender.specs.Cases.{unit_of_case}
use Rattle.h26x_rtp_sender.specs.Sent.{packet_header}
use Rattle.h26x_rtp_sender.proofs.cases.packets_in_memory.Goals as goal

fits : HeaderFits (packet_header unit_of_case 0 false)
fits = record {
  payload_type = omega arith;
  sequence = omega arith;
  timestamp = omega arith;
  ssrc = omega arith;
  csrcs = record { whole = refl; few = omega arith };
  extension = tt;
}

pub returns : goal.returns
returns c = record {
  lie = refl;
  none = refl;
  without_headroom = refl;
  past = refl;
  back = refl;
  which = refl;
  sends = record { begins = (fits, refl, omega arith); stands = refl; headed = refl };
  refuses = (refl, refl, (fits, refl, inr (omega arith)));
}

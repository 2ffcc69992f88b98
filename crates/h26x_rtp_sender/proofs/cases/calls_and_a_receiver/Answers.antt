use Rattle.std.proofs.Common.{false, refl, inr, arith}
use Rattle.h26x_rtp.specs.Datagram.{HeaderFits}
use Rattle.h26x_rtp_sender.specs.Cases.{unit_of_case}
use Rattle.h26x_rtp_sender.specs.Sent.{packet_header}
use Rattle.h26x_rtp_sender.proofs.cases.calls_and_a_receiver.Goals as goal

fits : HeaderFits (packet_header unit_of_case 0 false)
fits = record {
  payload_type = omega arith;
  sequence = omega arith;
  timestamp = omega arith;
  ssrc = omega arith;
  csrcs = record { whole = refl; few = omega arith };
  extension = tt;
}

pub returns : goal.returns
returns c = record {
  sends = record { begins = (fits, refl, omega arith); stands = refl; headed = refl };
  refuses = (refl, refl, (fits, refl, inr (omega arith)));
  held = record { numbered = (refl, (refl, tt)); all = refl };
  follows = λ config state. record { followed = refl; media = refl; plain = refl; alone = refl; told = inr (omega arith) };
  by_rtx = λ config state. record { known = refl; of_type = refl; no_rtcp = inr (omega arith) };
}

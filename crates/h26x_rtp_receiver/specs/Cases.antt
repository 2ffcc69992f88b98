-- What the worked cases have in common.
use Rattle.std.specs.Prelude.{ℕ, ◌+◌, true, false, List, [], ◌∷◌, ◌++◌, Option, Some, None}
use Rattle.h26x_access_units.specs.declared.pushed.Pushed.{Pushed}
use Rattle.h26x_access_units.specs.Reception.{reception_answer, after_reception}
use Rattle.h26x_access_units.specs.declared.config.AccessUnitConfig.{AccessUnitConfig}
use Rattle.h26x_model.specs.Receive.DepacketizerState.{DepacketizerState}
use Rattle.h26x_reorder.specs.Rtp.{rtp_body}
use Rattle.h26x_rtp.specs.Datagram.{DatagramParts}
use Rattle.h26x_rtp_receiver.specs.declared.payload_types.RtpPayloadTypes.{RtpPayloadTypes}
use Rattle.h26x_rtp_receiver.specs.declared.original.RtpOriginal.{RtpOriginal}
use Rattle.h26x_rtp_receiver.specs.declared.sources.RtpSources.{RtpSources}
use Rattle.h26x_rtp_receiver.specs.RtpReception.{RtpReception, fresh_rtp, followed_rtp, statistics_after}

-- a codec 96, its RTX 97, RED 98, its RTX 99, and FEC 100
abbrev pub types_of_case : RtpPayloadTypes
types_of_case = record {
  media = 96;
  rtx = Some 97;
  red = Some 98;
  rtx_of_red = Some 99;
  fec = Some 100;
}

-- a packet of the SSRC 1 with marker and timestamp 9
abbrev pub packet_of_case : ℕ → ℕ → List ℕ → DatagramParts
packet_of_case payload_type sequence payload = record {
  header = record {
    marker = true;
    payload_type = payload_type;
    sequence = sequence;
    timestamp = 9;
    ssrc = 1;
    csrcs = [];
    extension = None;
  };
  payload = payload;
  padding = [];
}

-- these SSRCs
abbrev pub sources_of_case : Option ℕ → Option ℕ → RtpSources
sources_of_case media rtx = record { media = media; rtx = rtx }

-- a receiver that no datagram was given to, and one that follows the SSRCs 1 and, of RTX, 2
abbrev pub fresh_of_case : AccessUnitConfig → DepacketizerState → RtpReception
fresh_of_case config state = fresh_rtp types_of_case config state

abbrev pub receiver_of_case : AccessUnitConfig → DepacketizerState → RtpReception
receiver_of_case config state =
    followed_rtp (sources_of_case (Some 1) (Some 2)) (fresh_of_case config state)

-- the bytes of a packet with marker and timestamp 9
abbrev pub datagram_of_case : ℕ → ℕ → ℕ → List ℕ → List ℕ
datagram_of_case payload_type sequence ssrc payload = (0x80 ∷ (128 + payload_type) ∷ 0x00 ∷ sequence
    ∷ 0x00 ∷ 0x00 ∷ 0x00 ∷ 0x09 ∷ 0x00 ∷ 0x00 ∷ 0x00 ∷ ssrc ∷ []) ++ payload

-- what a packet of the codec brings, what is answered for it as the first one, and what stands then
abbrev pub original_of_case : RtpOriginal
original_of_case = record {
  packet = (7, rtp_body 9 true (0x65 ∷ []));
  no_media = None;
  is_recovered = false;
}

abbrev pub answer_of_case : AccessUnitConfig → DepacketizerState → Pushed
answer_of_case config state =
    reception_answer (receiver_of_case config state).reception original_of_case.packet

abbrev pub taken_of_case : AccessUnitConfig → DepacketizerState → RtpReception
taken_of_case config state = record (receiver_of_case config state) {
  reception = after_reception 5 (receiver_of_case config state).reception original_of_case.packet
      (answer_of_case config state);
  statistics = statistics_after 6 (packet_of_case 96 7 (0x65 ∷ [])) false
      (answer_of_case config state) (receiver_of_case config state).statistics;
}

-- The calls of the worked cases.
use Rattle.std.proofs.Common.{ℕ, zero, suc, ◌<◌, List, [], ◌∷◌, Ok, refl, arith, inr}
use Rattle.h26x_access_units.specs.declared.config.AccessUnitConfig.{AccessUnitConfig}
use Rattle.h26x_access_units.specs.Account.{PushCall, FinishCall}
use Rattle.h26x_model.specs.Receive.DepacketizerState.{DepacketizerState}
use Rattle.h26x_rtp.specs.Datagram.{AreBytes}
use Rattle.h26x_rtp_receiver.specs.declared.pushed.RtpPushed.TheVariants.{Rtcp}
use Rattle.h26x_rtp_receiver.specs.Cases.{receiver_of_case, datagram_of_case, original_of_case, answer_of_case, taken_of_case}
use Rattle.h26x_rtp_receiver.specs.RtpCalls.{PushRtp, FinishRtp, AreRtpCalls, no_rtp_call, one_rtp_call}
use Rattle.h26x_rtp_receiver.specs.RtpReception.{told_packet, finished_rtp}

-- each is a byte
abbrev AllBytes : List ℕ → Type 0
AllBytes [] = Unit {0}
AllBytes (byte ∷ bytes) = (byte < 256) × AllBytes bytes

are_bytes : (bytes : List ℕ) → AllBytes bytes → AreBytes bytes
are_bytes [] all place = omega arith
are_bytes (byte ∷ bytes) all zero = all.0
are_bytes (byte ∷ bytes) all (suc place) = are_bytes bytes all.1 place

of_packet : AllBytes (datagram_of_case 96 7 1 (0x65 ∷ []))
of_packet = (omega arith, (omega arith, (omega arith, (omega arith, (omega arith, (omega arith, (omega arith, (omega arith, (omega arith, (omega arith, (omega arith, (omega arith, (omega arith, tt)))))))))))))

of_rtcp : AllBytes (datagram_of_case 72 7 1 [])
of_rtcp = (omega arith, (omega arith, (omega arith, (omega arith, (omega arith, (omega arith, (omega arith, (omega arith, (omega arith, (omega arith, (omega arith, (omega arith, tt))))))))))))

pub calls_of_case : (config : AccessUnitConfig) (state : DepacketizerState) →
    AreRtpCalls (receiver_of_case config state)
    (FinishRtp ∷ PushRtp 7 8 (datagram_of_case 72 7 1 []) (Ok Rtcp) ∷ PushRtp 5 6 (datagram_of_case 96 7 1 (0x65 ∷ [])) (Ok (told_packet original_of_case (answer_of_case config state))) ∷ [])
    (FinishCall ∷ PushCall 5 original_of_case.packet (answer_of_case config state) ∷ [])
    (finished_rtp (taken_of_case config state))
calls_of_case config state =
    one_rtp_call (one_rtp_call (one_rtp_call no_rtp_call
    (are_bytes (datagram_of_case 96 7 1 (0x65 ∷ [])) of_packet, omega arith, inr (refl, record { given = refl; stands = refl })))
    (are_bytes (datagram_of_case 72 7 1 []) of_rtcp, omega arith, inr (refl, refl)))
    refl

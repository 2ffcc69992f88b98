-- The packets of an access unit in memory of a caller, each behind its headroom (RFC 3550, 5.1).
use Rattle.std.specs.Prelude.{◌≡◌, ℕ, ◌+◌, ◌-◌, Bool, nat_le, ◌&&◌, List, [], ◌∷◌, length, Option, Result, Ok, Err}
use Rattle.h26x_packetizer.specs.Buffer.{packets_from}
use Rattle.h26x_rtp.specs.Datagram.{ExtensionParts}
use Rattle.h26x_rtp.specs.Memory.{overwritten}
use Rattle.h26x_rtp_sender.specs.Sending.{RtpSending, IsUnitTest, once_sent, unit_of}
use Rattle.h26x_rtp_sender.specs.Sent.{UnitParts, packet_headers}
use Rattle.h26x_rtp_sender.specs.declared.error.RtpSendError.{RtpSendError}
use Rattle.h26x_rtp_sender.specs.declared.error.RtpSendError.TheVariants.{Header, OutOfMemory}

-- whether packets may end at these places of memory of so many bytes, from this place on: each behind
-- its headroom, and the last in it
abbrev pub are_in_memory : ℕ → ℕ → ℕ → List ℕ → Bool
are_in_memory headroom start size [] = nat_le start size
are_in_memory headroom start size (end ∷ ends) =
    nat_le (start + headroom) end && are_in_memory headroom end size ends

-- memory with headers, each right before the packet that ends at one of these places; all else stays
abbrev pub headed_before : ℕ → ℕ → List ℕ → List (List ℕ) → List ℕ → List ℕ
headed_before headroom start [] headers memory = memory
headed_before headroom start (end ∷ ends) [] memory = memory
headed_before headroom start (end ∷ ends) (header ∷ headers) memory = headed_before headroom end ends
    headers (overwritten (start + headroom - length header) header memory)

-- The packets of an access unit are sent where they lie: the header of each stands right before it, and
-- begins at this place of its headroom.
pub record ArePacketsSentInMemory (unit : UnitParts) (s : RtpSending) (headroom : ℕ)
    (ends memory : List ℕ) (start : ℕ) (new : RtpSending) (sent : List ℕ) : Type 0 where
  pub begins : IsUnitTest unit headroom (Ok start)
  pub stands : new ≡ once_sent unit (packets_from headroom 0 memory ends) s
  pub headed : sent ≡ headed_before headroom 0 ends
      (packet_headers unit s.media.sequence (packets_from headroom 0 memory ends)) memory

-- Or they are refused, and all is as it was. A header that is refused is never told as want of memory.
abbrev pub IsUnitCallInMemory : UnitParts → RtpSending → ℕ → List ℕ → List ℕ → Result ℕ RtpSendError →
    RtpSending → List ℕ → Type 0
IsUnitCallInMemory unit s headroom ends memory (Ok start) new sent =
    ArePacketsSentInMemory unit s headroom ends memory start new sent
IsUnitCallInMemory unit s headroom ends memory (Err (Header e)) new sent = (new ≡ s) × (sent ≡ memory)
    × IsUnitTest unit headroom (Err e)
IsUnitCallInMemory unit s headroom ends memory (Err OutOfMemory) new sent = (new ≡ s) × (sent ≡ memory)
    × ((start : ℕ) × IsUnitTest unit headroom (Ok start))

abbrev pub IsSendInMemory : ℕ → Option ExtensionParts → RtpSending → ℕ → List ℕ → List ℕ →
    Result ℕ RtpSendError → RtpSending → List ℕ → Type 0
IsSendInMemory timestamp extension s headroom ends memory result new sent =
    IsUnitCallInMemory (unit_of s timestamp extension) s headroom ends memory result new sent

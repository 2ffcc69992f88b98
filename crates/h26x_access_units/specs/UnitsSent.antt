-- Access units as a sender sends them, each with its packets (RFC 6184, 5.1; RFC 7798, 4.1; RFC 9328,
-- 4.1; ours).
use Rattle.std.specs.Prelude.{◌≡◌, ℕ, ◌<◌, true, List, [], ◌∷◌, length, Option, Some, None}
use Rattle.std.specs.List.{Contains}
use Rattle.h26x_model.specs.Receive.DepacketizerState.{DepacketizerState, after_packets}
use Rattle.h26x_model.specs.Send.PacketizerState.{PacketizerState}
use Rattle.h26x_assembler.specs.StampedCalls.{StampedCall, IsOtherStamp, access_unit_packets, after_call, sent_unit}
use Rattle.h26x_assembler.specs.AccessUnit.{AccessUnitValue}
use Rattle.h26x_assembler.specs.AnyUnits.{SentPackets}
use Rattle.h26x_access_units.specs.ReceivedAccessUnit.{ReceivedAccessUnitValue}
use Rattle.h26x_access_units.specs.WholeSent.{nothing_written, IsWrittenOf}

-- an access unit with this timestamp and these packets
abbrev pub sent_packets : ℕ → List (List ℕ) → SentPackets
sent_packets timestamp packets = record { timestamp = timestamp; packets = packets }

-- the timestamp of the first of access units, if there is one
abbrev pub first_stamp : List SentPackets → Option ℕ
first_stamp [] = None
first_stamp (unit ∷ units) = Some unit.timestamp

-- each has a packet, and neighbours have other timestamps
abbrev pub AreNeighboursApart : List SentPackets → Type 0
AreNeighboursApart [] = Unit {0}
AreNeighboursApart (unit ∷ units) = (0 < length unit.packets)
    × IsOtherStamp (first_stamp units) unit.timestamp × AreNeighboursApart units

-- An access unit is one of those that were sent: it has its timestamp, and its bytes are what a
-- depacketizer writes of all its packets.
pub record IsOneSent (r : DepacketizerState) (units : List SentPackets)
    (unit : ReceivedAccessUnitValue) : Type 0 where
  pub sent : SentPackets
  pub among : Contains units sent
  pub timestamp : sent.timestamp ≡ unit.timestamp
  pub written : IsWrittenOf r sent.packets unit

-- what a depacketizer writes of all packets of a call is what was sent with it
pub record IsWrittenAsSent (s : PacketizerState) (r : DepacketizerState) (c : StampedCall) : Type 0
  where
    pub bytes : (after_packets (nothing_written r) (access_unit_packets s c.call)).out
        ≡ (sent_unit s r.is_avc c).bytes
    pub extra : (after_packets (nothing_written r) (access_unit_packets s c.call)).extra
        ≡ (sent_unit s r.is_avc c).extra

-- the access units that calls of a packetizer send, each with its packets
abbrev pub call_units : PacketizerState → List StampedCall → List SentPackets
call_units s [] = []
call_units s (c ∷ calls) = sent_packets c.timestamp (access_unit_packets s c.call)
    ∷ call_units (after_call s c.call) calls

-- an access unit that was given out, as an assembler tells it to be whole
abbrev pub told_unit : ReceivedAccessUnitValue → AccessUnitValue
told_unit unit = record {
  timestamp = unit.timestamp;
  bytes = unit.bytes;
  extra = unit.extra;
  is_whole = true;
}

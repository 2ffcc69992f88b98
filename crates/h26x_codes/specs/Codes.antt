-- The numbers that stand for codecs, answers and what is told (the library's rule).
use Rattle.std.specs.Prelude.{◌≡◌, ℕ, ◌==◌, ◌&&◌, not, Bool, true, false, if◌then◌else◌, Option, Some, None, Result, Ok, Err}
use Rattle.h26x_core.specs.declared.error.PacketError.{PacketError}
use Rattle.h26x_core.specs.declared.error.PacketError.TheVariants as error
use Rattle.h26x_core.specs.declared.extra.CodecExtra.{CodecExtra}
use Rattle.h26x_core.specs.declared.extra.CodecExtra.TheVariants as extra
use Rattle.h26x_packetizer.specs.declared.placement.Placement.{Placement}
use Rattle.h26x_packetizer.specs.declared.placement.Placement.TheVariants as p
use Rattle.h26x_packetizer.specs.declared.packing.Packing.{Packing}
use Rattle.h26x_packetizer.specs.declared.packing.Packing.TheVariants as k
use Rattle.h26x_packetizer.specs.declared.refusal.WhyRefused.{WhyRefused}
use Rattle.h26x_packetizer.specs.declared.refusal.WhyRefused.TheVariants as w
use Rattle.h26x_packetizer.specs.declared.refusal.RefusedUnit.{RefusedUnit}
use Rattle.h26x_packetizer.specs.declared.every_unit.EveryUnitError.{EveryUnitError}
use Rattle.h26x_packetizer.specs.declared.every_unit.EveryUnitError.TheVariants as u
use Rattle.h26x_codec.specs.declared.codec.Codec.{Codec}
use Rattle.h26x_codec.specs.declared.codec.Codec.TheVariants as c
use Rattle.h26x_receiver.specs.declared.received.Received.{Received}
use Rattle.h26x_receiver.specs.declared.received.Received.TheVariants as r

-- the codec with a number: that of its standard, H.264 to H.266
abbrev pub codec_with_number : ℕ → Option Codec
codec_with_number n =
    if n == 264 then Some c.H264 else if n == 265 then Some c.H265
    else if n == 266 then Some c.H266 else None

-- whether packets of a codec may bear decoding order numbers; those also have a largest size
abbrev pub may_have_donl : Codec → Bool
may_have_donl c.H264 = false
may_have_donl c.H265 = true
may_have_donl c.H266 = true

-- the call was carried out
abbrev pub ok : ℕ
ok = 0

-- a packet, or a unit that is to be packed, is too short
abbrev pub short_packet : ℕ
short_packet = 1

-- the extension of a PACI packet has over 31 bytes
abbrev pub extension_too_long : ℕ
extension_too_long = 5

abbrev pub out_of_memory : ℕ
out_of_memory = 8

abbrev pub unknown_codec : ℕ
unknown_codec = 9

abbrev pub wrong_end : ℕ
wrong_end = 10

abbrev pub not_of_this_codec : ℕ
not_of_this_codec = 11

abbrev pub out_of_range : ℕ
out_of_range = 12

-- what is to be written doesn't fit
abbrev pub no_room : ℕ
no_room = 13

-- no access unit has ended
abbrev pub nothing_yet : ℕ
nothing_yet = 14

-- why a unit can't go, where every unit goes
abbrev pub refused_unit_code : WhyRefused → ℕ
refused_unit_code w.WithoutHeader = 15
refused_unit_code w.Forbidden = 16
refused_unit_code w.OfPacketType = 17
refused_unit_code w.TooLong = 18

-- the code of a unit that can't go, with its place and its length
abbrev pub refused_unit_numbers : RefusedUnit → ℕ × (ℕ × ℕ)
refused_unit_numbers unit = (refused_unit_code unit.why, (unit.place, unit.len))

-- the code of a refusal of units, with two numbers
abbrev pub units_error_numbers : EveryUnitError → ℕ × (ℕ × ℕ)
units_error_numbers (u.Unit unit) = refused_unit_numbers unit
units_error_numbers u.OutOfMemory = (out_of_memory, (0, 0))

-- which units share packets, by its number
abbrev pub packing_with_number : ℕ → Option Packing
packing_with_number n =
    if n == 0 then Some k.Together else if n == 1 then Some k.BeforeSlices
    else if n == 2 then Some k.Apart else if n == 3 then Some k.Single else None

-- the refusal of a packet with a code and two numbers, if the code is of one
abbrev pub refusal_of : ℕ → ℕ → ℕ → Option PacketError
refusal_of code first second =
    if code == 1 then Some error.ErrShortPacket
    else if code == 2 then Some (error.NaluTypeIsNotHandled first)
    else if code == 3 then Some (error.StapASizeLargerThanBuffer first second)
    else if code == 4 then Some error.ErrH265CorruptedPacket
    else if code == 5 then Some error.ErrH265PACIPHESTooLong
    else if code == 6 then Some error.ErrH266CorruptedPacket
    else if code == 7 then Some error.AvcUnitTooLong
    else if code == 8 then Some error.OutOfMemory
    else None

-- what a code and its numbers say became of a packet, if they say it
abbrev pub outcome_of : ℕ → ℕ → ℕ → Option (Result (Unit {0}) PacketError)
outcome_of code first second = if code == ok then Some (Ok tt) else elim (refusal_of code first
    second) [ None ↦ None | Some e ↦ Some (Err e) ]

-- what a number tells of units of a codec: 0 of none yet, 2 that a keyframe is among them
abbrev pub extra_with_number : Codec → ℕ → CodecExtra
extra_with_number codec n = if n == 0 then extra.None else elim codec [
  | c.H264 ↦ extra.H264 (record { is_keyframe = n == 2 })
  | c.H265 ↦ extra.H265 (record { is_keyframe = n == 2 })
  | c.H266 ↦ extra.H266 (record { is_keyframe = n == 2 })
]

-- the number that tells it
abbrev pub extra_number : CodecExtra → ℕ
extra_number extra.None = 0
extra_number (extra.H264 it) = if it.is_keyframe then 2 else 1
extra_number (extra.H265 it) = if it.is_keyframe then 2 else 1
extra_number (extra.H266 it) = if it.is_keyframe then 2 else 1

-- the codec of an endpoint that is to be made, or the code that says why there is none: no codec
-- has this number, or packets of this codec bear no decoding order numbers
abbrev pub codec_or_code : ℕ → Bool → Result Codec ℕ
codec_or_code number has_donl = elim (codec_with_number number) [
  | None ↦ Err unknown_codec
  | Some codec ↦ if has_donl && not (may_have_donl codec) then Err not_of_this_codec else Ok codec
]

-- what came of packets that were to go into memory: a code, how many they are, and their bytes
abbrev pub placement_answer : Result Placement PacketError → ℕ × (ℕ × ℕ)
placement_answer (Ok (p.Placed size)) = (ok, (size.packets, size.bytes))
placement_answer (Ok (p.NoRoom size)) = (no_room, (size.packets, size.bytes))
placement_answer (Err e) = (out_of_memory, (0, 0))

-- the numbers of what became of a packet that was not refused: which of the four it is, and how many
-- packets are missing before this one, or how far it is behind
abbrev pub received_numbers : Received → ℕ × ℕ
received_numbers r.InOrder = (0, 0)
received_numbers (r.Gap missing) = (1, missing)
received_numbers (r.TooLong missing) = (2, missing)
received_numbers (r.Late behind) = (3, behind)

-- a code and its numbers say what became of a packet with its sequence number
abbrev pub SaysAnswer : ℕ → ℕ → ℕ → ℕ → ℕ → Result Received PacketError → Type 0
SaysAnswer code first second received count (Ok it) =
    (code ≡ ok) × ((received, count) ≡ received_numbers it)
SaysAnswer code first second received count (Err error) =
    outcome_of code first second ≡ Some (Err error)

-- whether a code and its number say that such a packet was taken
abbrev pub says_taken : ℕ → ℕ → Bool
says_taken code received = code == ok && not (received == 3)

-- Packets and headers written to memory of a caller, and why they aren't (RFC 3550, 5.1).
use Rattle.std.specs.Prelude.{◌≡◌, ℕ, ◌+◌, ◌-◌, ◌^◌, ◌<◌, ◌≤◌, ◌⊎◌, min, Bool, List, ◌++◌, length, drop, Result, Ok, Err}
use Rattle.h26x_rtp.specs.declared.error.RtpWriteError.{RtpWriteError}
use Rattle.h26x_rtp.specs.declared.error.RtpWriteError.TheVariants.{PayloadType, Csrcs, Extension, Padding, NoRoom}
use Rattle.h26x_rtp.specs.Datagram.{HeaderParts, DatagramParts, AreWords, ExtensionFits, HeaderFits, IsPadding, datagram_header, datagram_bytes}
use Rattle.h26x_rtp.specs.Memory.{overwritten}

-- the first part of a header that has no place in it
abbrev pub IsHeaderFault : HeaderParts → RtpWriteError → Type 0
IsHeaderFault it PayloadType = 128 ≤ it.payload_type
IsHeaderFault it Csrcs = (it.payload_type < 128) × ¬ AreWords it.csrcs 64
IsHeaderFault it Extension =
    (it.payload_type < 128) × AreWords it.csrcs 64 × ¬ ExtensionFits it.extension
IsHeaderFault it Padding = ⊥
IsHeaderFault it (NoRoom size) = ⊥

-- whether a header may be written
abbrev pub IsHeaderTest : HeaderParts → Result (Unit {0}) RtpWriteError → Type 0
IsHeaderTest it (Ok _) = HeaderFits it
IsHeaderTest it (Err e) = IsHeaderFault it e

-- a number of bytes as it is told: the greatest number where they are more
abbrev pub told_size : List ℕ → ℕ
told_size bytes = min (length bytes) (2 ^ 64 - 1)

-- why a header isn't written right before a place, in memory of so many bytes
abbrev pub IsHeaderRefusal : HeaderParts → Bool → ℕ → ℕ → RtpWriteError → Type 0
IsHeaderRefusal it padded place room (NoRoom size) = HeaderFits it
    × (size ≡ length (datagram_header it padded)) × ((room < place) ⊎ (place < size))
IsHeaderRefusal it padded place room e = IsHeaderFault it e

-- a header written right before a place; all else stays
abbrev pub IsHeaderWritten : HeaderParts → Bool → ℕ → List ℕ → List ℕ → Result ℕ RtpWriteError →
    Type 0
IsHeaderWritten it padded place old new (Ok start) = HeaderFits it
    × (start + length (datagram_header it padded) ≡ place) × (place ≤ length old)
    × (new ≡ overwritten start (datagram_header it padded) old)
IsHeaderWritten it padded place old new (Err e) = (new ≡ old)
    × IsHeaderRefusal it padded place (length old) e

-- whether a packet may be written
abbrev pub IsDatagramTest : DatagramParts → Result (Unit {0}) RtpWriteError → Type 0
IsDatagramTest it (Ok _) = HeaderFits it.header × IsPadding it.padding
IsDatagramTest it (Err Padding) = HeaderFits it.header × ¬ IsPadding it.padding
IsDatagramTest it (Err e) = IsHeaderFault it.header e

-- why a packet isn't written to memory of so many bytes
abbrev pub IsDatagramRefusal : DatagramParts → ℕ → RtpWriteError → Type 0
IsDatagramRefusal it room Padding = HeaderFits it.header × ¬ IsPadding it.padding
IsDatagramRefusal it room (NoRoom size) = HeaderFits it.header × IsPadding it.padding
    × (size ≡ told_size (datagram_bytes it)) × (room < length (datagram_bytes it))
IsDatagramRefusal it room e = IsHeaderFault it.header e

-- a packet written to the front of memory; all else stays
abbrev pub IsDatagramWritten : DatagramParts → List ℕ → List ℕ → Result ℕ RtpWriteError → Type 0
IsDatagramWritten it old new (Ok size) = HeaderFits it.header × IsPadding it.padding
    × (size ≡ length (datagram_bytes it)) × (size ≤ length old)
    × (new ≡ datagram_bytes it ++ drop size old)
IsDatagramWritten it old new (Err e) = (new ≡ old) × IsDatagramRefusal it (length old) e

-- bytes written to the front of memory where there is room; all else stays
abbrev pub IsBytesWritten : List ℕ → List ℕ → List ℕ → Result ℕ RtpWriteError → Type 0
IsBytesWritten bytes old new (Ok size) = (size ≡ length bytes) × (size ≤ length old)
    × (new ≡ bytes ++ drop size old)
IsBytesWritten bytes old new (Err e) = (new ≡ old) × (length old < length bytes)
    × (e ≡ NoRoom (told_size bytes))

-- RTP packets (RFC 3550, 5.1 and 5.3.1).
use Rattle.std.specs.Prelude.{◌≡◌, ℕ, ◌+◌, ◌-◌, ◌/◌, ◌%◌, ◌<◌, Bool, true, false, List, [], ◌∷◌, ◌++◌, length, slice_index, Option, Some, None, is_some}
use Rattle.h26x_core.specs.Word.{flag, word, long_word}

-- an extension: 16 bits that a profile defines, and data of whole words (RFC 3550, 5.3.1)
pub record ExtensionParts : Type 0 where
  pub profile : ℕ
  pub bytes : List ℕ

-- what a header says; the CSRCs are four bytes each (RFC 3550, 5.1)
pub record HeaderParts : Type 0 where
  pub marker : Bool
  pub payload_type : ℕ
  pub sequence : ℕ
  pub timestamp : ℕ
  pub ssrc : ℕ
  pub csrcs : List ℕ
  pub extension : Option ExtensionParts

-- a packet; the last byte of its padding says how long this is (RFC 3550, 5.1)
pub record DatagramParts : Type 0 where
  pub header : HeaderParts
  pub payload : List ℕ
  pub padding : List ℕ

-- an extension behind its length in words (RFC 3550, 5.3.1)
abbrev pub extension_bytes : Option ExtensionParts → List ℕ
extension_bytes None = []
extension_bytes (Some it) = word it.profile ++ word (length it.bytes / 4) ++ it.bytes

-- version 2, P where there is padding, X where there is an extension, and the count of CSRCs, then M
-- and the payload type (RFC 3550, 5.1)
abbrev pub first_two : HeaderParts → Bool → List ℕ
first_two it padded =
    (128 + flag padded 32 + flag (is_some it.extension) 16 + length it.csrcs / 4)
    ∷ (flag it.marker 128 + it.payload_type) ∷ []

-- the 12 bytes that every header has (RFC 3550, 5.1)
abbrev pub fixed_bytes : HeaderParts → Bool → List ℕ
fixed_bytes it padded = first_two it padded ++ word it.sequence ++ long_word it.timestamp
    ++ long_word it.ssrc

-- the header (RFC 3550, 5.1)
abbrev pub datagram_header : HeaderParts → Bool → List ℕ
datagram_header it padded = fixed_bytes it padded ++ (it.csrcs ++ extension_bytes it.extension)

abbrev pub is_there : List ℕ → Bool
is_there [] = false
is_there (byte ∷ bytes) = true

-- the whole packet: header, payload and padding (RFC 3550, 5.1)
abbrev pub datagram_bytes : DatagramParts → List ℕ
datagram_bytes it = datagram_header it.header (is_there it.padding) ++ (it.payload ++ it.padding)

-- whole words, fewer than so many bytes
pub record AreWords (bytes : List ℕ) (most : ℕ) : Type 0 where
  pub whole : length bytes % 4 ≡ 0
  pub few : length bytes < most

-- what has a place in an extension: 16 bits, at most 65535 words (RFC 3550, 5.3.1)
abbrev pub ExtensionFits : Option ExtensionParts → Type 0
ExtensionFits None = Unit {0}
ExtensionFits (Some it) = (it.profile < 65536) × AreWords it.bytes 262144

-- what has a place in a header: 7, 16 and 32 bits, at most 15 CSRCs (RFC 3550, 5.1)
pub record HeaderFits (it : HeaderParts) : Type 0 where
  pub payload_type : it.payload_type < 128
  pub sequence : it.sequence < 65536
  pub timestamp : it.timestamp < 4294967296
  pub ssrc : it.ssrc < 4294967296
  pub csrcs : AreWords it.csrcs 64
  pub extension : ExtensionFits it.extension

-- padding: none, or its last byte says how many bytes it has, itself among them (RFC 3550, 5.1)
abbrev pub IsPadding : List ℕ → Type 0
IsPadding padding = slice_index padding (length padding - 1) ≡ length padding

-- each is a byte
abbrev pub AreBytes : List ℕ → Type 0
AreBytes bytes = (place : ℕ) → slice_index bytes place < 256

-- the bytes are this packet
pub record IsDatagram (bytes : List ℕ) (it : DatagramParts) : Type 0 where
  pub spelled : bytes ≡ datagram_bytes it
  pub header : HeaderFits it.header
  pub padding : IsPadding it.padding

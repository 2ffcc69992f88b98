-- What bytes are read as, or their first fault (RFC 3550, 5.1 and 5.3.1).
use Rattle.std.specs.Prelude.{◌≡◌, ℕ, ◌-◌, ◌*◌, ◌==◌, nat_lt, Bool, true, false, if◌then◌else◌, List, [], ◌∷◌, length, take, drop, slice_index, Option, Some, None, Result, Ok, Err}
use Rattle.h26x_core.specs.Word.{field, is_set}
use Rattle.h26x_rtp.specs.declared.error.RtpError.{RtpError}
use Rattle.h26x_rtp.specs.declared.error.RtpError.TheVariants.{TooShort, OtherVersion, CsrcsPastTheEnd, ExtensionPastTheEnd, PaddingOfZero, PaddingTooLong}
use Rattle.h26x_rtp.specs.Words.{word_at, long_at}
use Rattle.h26x_rtp.specs.Datagram.{ExtensionParts, HeaderParts, DatagramParts}

-- what is read of what was read before, but for its fault
infixl 10 ◌>>=◌
abbrev pub ◌>>=◌ : {A B : Type 0} → Result A RtpError → (A → Result B RtpError) → Result B RtpError
(Ok it) >>= f = f it
(Err e) >>= f = Err e

-- so many bytes and those behind them, or a fault where there are fewer
abbrev pub front_of : RtpError → ℕ → List ℕ → Result (List ℕ × List ℕ) RtpError
front_of e n bytes = if nat_lt (length bytes) n then Err e else Ok (take n bytes, drop n bytes)

-- the extension, where X is set, and what stands behind it (RFC 3550, 5.3.1)
abbrev pub extension_at : Bool → List ℕ → Result (Option ExtensionParts × List ℕ) RtpError
extension_at false bytes = Ok (None, bytes)
extension_at true bytes =
    front_of ExtensionPastTheEnd 4 bytes >>= λ head.
    front_of ExtensionPastTheEnd (4 * word_at head.0 2) head.1 >>= λ it.
    Ok (Some (record { profile = word_at head.0 0; bytes = it.0 }), it.1)

-- payload and padding, by the last byte where P is set (RFC 3550, 5.1)
abbrev pub with_padding : ℕ → List ℕ → Result (List ℕ × List ℕ) RtpError
with_padding count bytes =
    if nat_lt (length bytes) count then Err PaddingTooLong
    else if count == 0 then Err PaddingOfZero
    else Ok (take (length bytes - count) bytes, drop (length bytes - count) bytes)

abbrev pub padding_at : Bool → List ℕ → Result (List ℕ × List ℕ) RtpError
padding_at false bytes = Ok (bytes, [])
padding_at true [] = Err PaddingTooLong
padding_at true (byte ∷ bytes) = with_padding (slice_index (byte ∷ bytes) (length bytes))
    (byte ∷ bytes)

-- the header's parts, by the bytes that every header has (RFC 3550, 5.1)
abbrev pub header_at : List ℕ → List ℕ → Option ExtensionParts → HeaderParts
header_at bytes csrcs extension = record {
  marker = is_set (slice_index bytes 1) 7;
  payload_type = field (slice_index bytes 1) 6 0;
  sequence = word_at bytes 2;
  timestamp = long_at bytes 4;
  ssrc = long_at bytes 8;
  csrcs = csrcs;
  extension = extension;
}

-- what stands behind the first 12 bytes
abbrev pub behind_fixed : List ℕ → List ℕ → Result DatagramParts RtpError
behind_fixed bytes rest =
    front_of CsrcsPastTheEnd (4 * field (slice_index bytes 0) 3 0) rest >>= λ csrcs.
    extension_at (is_set (slice_index bytes 0) 4) csrcs.1 >>= λ extension.
    padding_at (is_set (slice_index bytes 0) 5) extension.1 >>= λ it.
    Ok (record {
      header = header_at bytes csrcs.0 extension.0;
      payload = it.0;
      padding = it.1;
    })

-- a packet of a header of 12 bytes, which has no padding
abbrev pub payload_alone : List ℕ → List ℕ → DatagramParts
payload_alone bytes rest = record {
  header = header_at bytes [] None;
  payload = rest;
  padding = [];
}

-- the whole packet
abbrev pub datagram_of : List ℕ → Result DatagramParts RtpError
datagram_of bytes =
    if nat_lt (length bytes) 12 then Err TooShort
    else if field (slice_index bytes 0) 7 6 == 2 then behind_fixed bytes (drop 12 bytes)
    else Err (OtherVersion (field (slice_index bytes 0) 7 6))

-- what a call answered, seen by `view`, is what is read
abbrev pub AnswersAs : {X Y : Type 0} → (X → Y) → Result X RtpError → Result Y RtpError → Type 0
AnswersAs view (Ok it) read = read ≡ Ok (view it)
AnswersAs view (Err e) read = read ≡ Err e

-- Retransmission packets (RFC 4588, 4).
use Rattle.std.specs.Prelude.{◌≡◌, ℕ, ◌<◌, List, [], ◌++◌}
use Rattle.h26x_core.specs.Word.{word}
use Rattle.h26x_rtp.specs.Datagram.{HeaderParts, DatagramParts}

-- the payload: the original sequence number (OSN), and the original payload (RFC 4588, 4)
abbrev pub rtx_bytes : ℕ → List ℕ → List ℕ
rtx_bytes sequence payload = word sequence ++ payload

-- a header in another stream of packets: all else stays, the timestamp and the marker too (RFC 4588,
-- 4)
abbrev pub in_stream : HeaderParts → ℕ → ℕ → ℕ → HeaderParts
in_stream it payload_type sequence ssrc = record it {
  payload_type = payload_type;
  sequence = sequence;
  ssrc = ssrc;
}

-- the retransmission packet of an original one, without its padding (RFC 4588, 4)
abbrev pub retransmission_of : DatagramParts → ℕ → ℕ → ℕ → DatagramParts
retransmission_of it payload_type sequence ssrc = record {
  header = in_stream it.header payload_type sequence ssrc;
  payload = rtx_bytes it.header.sequence it.payload;
  padding = [];
}

-- a packet is the original of a retransmission packet (RFC 4588, 4)
pub record IsOriginal (rtx : DatagramParts) (payload_type ssrc : ℕ) (it : DatagramParts) :
    Type 0 where
  pub sequence : it.header.sequence < 65536
  pub payload : rtx.payload ≡ rtx_bytes it.header.sequence it.payload
  pub header : it.header ≡ in_stream rtx.header payload_type it.header.sequence ssrc
  pub padding : it.padding ≡ []

-- What a receiver reads of RTP packets (RFC 3550, 5.1).
use Rattle.std.specs.Prelude.{ℕ, Bool, List}

-- what an RTP packet bears beside its sequence number, as far as a receiver reads it
pub record RtpBody : Type 0 where
  pub timestamp : ℕ
  pub marker : Bool
  pub payload : List ℕ

-- these three
abbrev pub rtp_body : ℕ → Bool → List ℕ → RtpBody
rtp_body timestamp marker payload = record {
  timestamp = timestamp;
  marker = marker;
  payload = payload;
}

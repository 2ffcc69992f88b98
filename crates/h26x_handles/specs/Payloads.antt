-- Payloads that lie in one buffer (ours).
use Rattle.std.specs.Prelude.{ℕ, ◌&&◌, nat_le, Bool, List}
use Rattle.std.specs.List.{between}
use Rattle.h26x_reorder.specs.Rtp.{RtpBody, rtp_body}
use Rattle.h26x_handles.specs.declared.payloads.RtpPayload.{RtpPayload}

-- whether one lies in a buffer of so many bytes, and doesn't end before it begins
abbrev pub is_within : ℕ → RtpPayload → Bool
is_within len it = nat_le it.begin it.end && nat_le it.end len

-- its bytes there
abbrev pub payload_in : List ℕ → RtpPayload → List ℕ
payload_in bytes it = between it.begin it.end bytes

-- the packet that bears it
abbrev pub packet_in : List ℕ → RtpPayload → ℕ × RtpBody
packet_in bytes it = (it.sequence, rtp_body it.timestamp it.marker (payload_in bytes it))

-- its bytes with their sequence number
abbrev pub numbered_in : List ℕ → RtpPayload → ℕ × List ℕ
numbered_in bytes it = (it.sequence, payload_in bytes it)

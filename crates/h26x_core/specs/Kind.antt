-- What a NAL unit is to a packetizer (str0m's rule).
use Rattle.std.specs.Prelude.{Bool, true, false}

-- Skipped units are not sent. Parameter sets wait for the next other unit. Every other unit is sent
-- at once.
pub data Kind : Type 0 where
  Skipped : Kind
  Vps : Kind
  Sps : Kind
  Pps : Kind
  Other : Kind

-- whether a kind is a VPS
abbrev pub is_vps : Kind → Bool
is_vps Vps = true
is_vps kind = false

-- whether it is an SPS
abbrev pub is_sps : Kind → Bool
is_sps Sps = true
is_sps kind = false

-- whether it is a PPS
abbrev pub is_pps : Kind → Bool
is_pps Pps = true
is_pps kind = false

-- whether it is an other unit
abbrev pub is_other : Kind → Bool
is_other Other = true
is_other kind = false

-- What a receiver holds at most (ours).
use Rattle.std.specs.Prelude.{ℕ, ◌+◌, ◌≤◌, max, length, Option, Some, None}
use Rattle.h26x_model.specs.Receive.RunLimit.{run_len}
use Rattle.h26x_reorder.specs.Rtp.{RtpBody}
use Rattle.h26x_assembler.specs.AccessUnit.{unit_len}
use Rattle.h26x_access_units.specs.JitterBuffer.{held_bytes}
use Rattle.h26x_access_units.specs.Reception.{Reception}

-- how many bytes the packet holds that waits alone
abbrev pub stray_len : Option (ℕ × RtpBody) → ℕ
stray_len None = 0
stray_len (Some stray) = length stray.1.payload

-- Where no packet that came has more bytes than this: what waits is within the limit and one packet,
-- or within two packets, one packet waits alone, and the open run and the open access unit are within
-- their limits.
pub record IsWithinLimits (most : ℕ) (s : Reception) : Type 0 where
  pub waiting : held_bytes s.waiting.buffer.held ≤ max s.waiting.config.held_limit most + most
  pub stray : stray_len s.stray ≤ most
  pub run : run_len s.assembler.state.run ≤ s.run_limit
  pub unit : unit_len s.assembler.unit ≤ s.unit_limit

-- what is within the limits stays so, by a packet of so many bytes
abbrev pub StaysWithinLimits : ℕ → Reception → Reception → Type 0
StaysWithinLimits len s new = (most : ℕ) → len ≤ most → IsWithinLimits most s →
    IsWithinLimits most new

-- The packets that most are: one that goes on with the access unit that is open, and the sole one of
-- an access unit (ours).
use Rattle.std.specs.Prelude.{ℕ, Bool, not, ◌&&◌, is_some}
use Rattle.h26x_core.specs.Sequence.{is_expected}
use Rattle.h26x_reorder.specs.Rtp.{RtpBody}
use Rattle.h26x_assembler.specs.AccessUnit.{Assembly, is_unit_at}
use Rattle.h26x_access_units.specs.declared.framing.Framing.{Framing}
use Rattle.h26x_access_units.specs.declared.numbers.NumbersSoFar.{NumbersSoFar}
use Rattle.h26x_access_units.specs.Numbers.{bears_nothing, is_timestamp}
use Rattle.h26x_access_units.specs.Reception.{shown_of}

-- whether a packet goes on with the access unit that is open: it is the next one, has no marker, and a
-- slice of its timestamp came, whose access unit no marker ended
abbrev pub goes_on : Assembly → Framing → NumbersSoFar → ℕ × RtpBody → Bool
goes_on s framing numbers p = not p.1.marker && (not (bears_nothing p.1.payload)
    && (framing.has_slice && (is_expected s.expected p.0 && (is_unit_at s.unit p.1.timestamp
    && not (is_timestamp numbers.marked p.1.timestamp)))))

-- whether a packet is the sole one of its access unit: it is the next one, none is open, and it bears
-- a slice and a marker that is believed
abbrev pub is_sole : Assembly → Framing → NumbersSoFar → ℕ × RtpBody → Bool
is_sole s framing numbers p = p.1.marker && (not (bears_nothing p.1.payload)
    && (not framing.marks_slices && (is_expected s.expected p.0 && (not (is_some s.unit)
    && (not (is_timestamp numbers.marked p.1.timestamp) && (shown_of s p).has_slice)))))

-- Where an access unit begins and ends among H.264 packets (RFC 6184, 5.1 and 5.8; str0m's rule).
use Rattle.std.specs.Prelude.{ℕ, Bool, true, false, ◌||◌, ◌==◌, if◌then◌else◌, List, ◌∷◌}
use Rattle.h26x_core.specs.Word.{field}
use Rattle.h26x_core.specs.H264Unit.{type_of}

-- a packet of two bytes or more may be an access unit's first; a fragment, of type 28 or 29, where
-- its S bit is set
abbrev pub may_begin_h264 : List ℕ → Bool
may_begin_h264 (first ∷ second ∷ packet) =
    if (type_of first == 28) || (type_of first == 29) then field second 7 7 == 1 else true
may_begin_h264 packet = false

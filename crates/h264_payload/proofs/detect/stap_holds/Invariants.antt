use Rattle.std.proofs.Common.{◌≡◌, length}
use Rattle.std.specs.Prelude.{◌==◌}
use Rattle.std.specs.List.{list_any}
use Rattle.h26x_core.specs.H264Unit.{type_of_first}
use Rattle.h264_payload.specs.H264.{stap_units}
use Rattle.h264_payload.proofs.detect.stap_holds.Given as goal

-- what is left holds such a unit where all does
abbrev pub invariant-loop-unit : goal.invariant-loop-unit
invariant-loop-unit l = list_any (λ unit. type_of_first unit == l.target_nalu) (stap_units l.rest) ≡ list_any (λ unit. type_of_first unit == l.target_nalu) (stap_units l.bytes)

abbrev pub decreases-loop-unit : goal.decreases-loop-unit
decreases-loop-unit l = length l.rest

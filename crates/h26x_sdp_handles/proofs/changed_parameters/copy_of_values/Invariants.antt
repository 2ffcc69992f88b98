use Rattle.std.proofs.Common.{◌≡◌, take, map}
use Rattle.h26x_fmtp.specs.ParametersViews.{value_view, values_view}
use Rattle.h26x_sdp_handles.proofs.changed_parameters.copy_of_values.Given as goal

abbrev pub invariant-loop-value : goal.invariant-loop-value
invariant-loop-value l = values_view l.copies ≡ map value_view (take l.value-index l.values)

use Rattle.std.proofs.Common.{◌≡◌, ◌++◌, drop}
use Rattle.h26x_stream_parameters.specs.FromStream.{first_sets}
use Rattle.h26x_stream_parameters.specs.FromStreamViews.{slices_view}
use Rattle.h26x_fmtp.specs.UnitsViews.{units_view}
use Rattle.h26x_stream_parameters.proofs.from_stream.first_sets.Given as goal

abbrev pub invariant-loop-unit : goal.invariant-loop-unit
invariant-loop-unit l = units_view l.sets.items ++ first_sets l.types (slices_view (drop l.unit-index l.units)) ≡ first_sets l.types (slices_view l.units)

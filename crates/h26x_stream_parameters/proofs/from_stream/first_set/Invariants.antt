use Rattle.std.proofs.Common.{◌≡◌, drop}
use Rattle.h26x_stream_parameters.specs.FromStream.{first_set}
use Rattle.h26x_stream_parameters.specs.FromStreamViews.{slices_view}
use Rattle.h26x_stream_parameters.proofs.from_stream.first_set.Given as goal

abbrev pub invariant-loop-unit : goal.invariant-loop-unit
invariant-loop-unit l = first_set l.types (slices_view (drop l.unit-index l.units)) ≡ first_set l.types (slices_view l.units)

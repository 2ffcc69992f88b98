use Rattle.std.proofs.Common.{◌≡◌, ◌++◌, ℕ, List}
use Rattle.h26x_cut.specs.Cutting.{AreUnits}
use Rattle.h26x_stream_parameters.specs.FromStreamViews.{slices_view}
use Rattle.h26x_stream_parameters.proofs.from_stream.units_of.Given as goal

abbrev pub invariant-loop-unit : goal.invariant-loop-unit
invariant-loop-unit l = (all : List (List ℕ)) × AreUnits l.fn.rule l.payload all × (slices_view l.list.items ++ l.unit-iterator ≡ all)

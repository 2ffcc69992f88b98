use Rattle.std.proofs.Common.{◌≡◌, ℕ, List, length}
use Rattle.std.specs.Prelude.{nat_le}
use Rattle.std.specs.List.{list_all}
use Rattle.h26x_cut.specs.Cutting.{AreUnits}
use Rattle.h26x_cut.specs.declared.ZeroRule.TheVariants.{All}
use Rattle.h26x_stream_parameters.proofs.single_units.fits_single_units.Given as goal

abbrev pub invariant-loop-unit : goal.invariant-loop-unit
invariant-loop-unit l =
    (list : List (List ℕ)) × AreUnits All l.payload list
    × (list_all (λ unit. nat_le (length unit) l.limit) l.unit-iterator ≡ list_all (λ unit. nat_le (length unit) l.limit) list)

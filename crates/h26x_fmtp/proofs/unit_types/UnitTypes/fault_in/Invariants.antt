use Rattle.std.proofs.Common.{◌≡◌, drop}
use Rattle.h26x_fmtp.specs.UnitTypes.{fault_from}
use Rattle.h26x_fmtp.specs.UnitsViews.{units_view}
use Rattle.h26x_fmtp.proofs.unit_types.UnitTypes.fault_in.Given as goal

abbrev pub invariant-loop-place : goal.invariant-loop-place
invariant-loop-place l = fault_from l.self l.place (units_view (drop l.place l.units)) ≡ fault_from l.self 0 (units_view l.units)

use Rattle.std.proofs.Common.{◌≡◌, drop}
use Rattle.std.specs.String.{string_bytes}
use Rattle.h26x_fmtp.specs.Units.{units_text}
use Rattle.h26x_fmtp.specs.UnitsViews.{units_view}
use Rattle.h26x_fmtp.proofs.UnitsLemmas.{units_on}
use Rattle.h26x_fmtp.proofs.units.write_units.Given as goal

abbrev pub invariant-loop-unit : goal.invariant-loop-unit
invariant-loop-unit l = units_on (string_bytes l.text) (units_view (drop l.unit-index l.others)) ≡ units_text (units_view l.units)

use Rattle.std.proofs.Common.{◌≡◌, ◌+◌, length, []}
use Rattle.std.specs.Prelude.{vec_len}
use Rattle.std.specs.Option.{option_map_or}
use Rattle.h26x_fmtp.specs.Units.{pieces, units_from, sprop_units}
use Rattle.h26x_fmtp.specs.UnitsViews.{units_view}
use Rattle.h26x_fmtp.proofs.UnitsLemmas.{behind_units}
use Rattle.h26x_fmtp.proofs.units.read_units.Given as goal

abbrev pub invariant-loop-rest : goal.invariant-loop-rest
invariant-loop-rest l = behind_units (units_view l.units.items) (units_from (vec_len l.units) (option_map_or (λ rest. pieces rest.now) l.rest [])) ≡ sprop_units l.text

abbrev pub decreases-loop-rest : goal.decreases-loop-rest
decreases-loop-rest l = option_map_or (λ rest. length rest.now + 1) l.rest 0

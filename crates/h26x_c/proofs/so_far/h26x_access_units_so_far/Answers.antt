use Rattle.std.proofs.Common.{sym, ap, ◌∙◌}
use Rattle.h26x_endpoint.specs.EndpointStates.{endpoint_open}
use Rattle.h26x_c.proofs.so_far.h26x_access_units_so_far.Goals as goal

-- src/so_far.rt
pub returns-in-AccessUnits-clause-shown : goal.returns-in-AccessUnits-clause-shown
returns-in-AccessUnits-clause-shown c = λ a is. c.show.ensures.shown a
    (c.units_so_far.ensures ∙ sym (ap endpoint_open c.in-AccessUnits.is) ∙ ap endpoint_open c.get.ensures ∙ is)

-- An endpoint that receives access units, by what it is to contracts.
use Rattle.h26x_handles.specs.UnitsState.{UnitsState}
use Rattle.h26x_handles.specs.contracts.access_units.AccessUnitEndpointGivesUnits.TheImpl.{ghosts}
use Rattle.h26x_handles.specs.declared.access_units.AccessUnitEndpoint.{AccessUnitEndpoint}

-- what a receiver of access units is to contracts
abbrev pub units_state_of : AccessUnitEndpoint → UnitsState
units_state_of = ghosts.units

use Rattle.std.proofs.Common.{◌≡◌, map}
use Rattle.h26x_handles.specs.AccessUnits.{units_state_of}
use Rattle.h26x_handles.specs.Payloads.{packet_in}
use Rattle.h26x_handles.proofs.PushAllLemmas.{ArePushedSoFar}
use Rattle.h26x_handles.proofs.access_units.AccessUnitEndpoint.push_all.Given as goal

-- those before this one were pushed, and none of them is full
abbrev pub invariant-loop-it : goal.invariant-loop-it
invariant-loop-it l = record {
  place : l.taken ≡ l.it-index;
  pushed : ArePushedSoFar l.now (map (packet_in l.bytes) l.payloads) (units_state_of l.fn.self) (units_state_of l.self) l.fn.told l.told l.taken;
}

use Rattle.std.proofs.Common.{◌≡◌, Ok, Err, MatchResult, sym, subst}
use Rattle.h26x_fmtp.specs.UnitsViews.{units_view}
use Rattle.h26x_sdp_handles.specs.Sdp.{sdp_units}
use Rattle.h26x_sdp_handles.proofs.sdp.SdpEndpoint.units.Goals as goal

pub returns-in-H265 : goal.returns-in-H265
returns-in-H265 c = subst (λ it. MatchResult c.units-in-H265.result (λ units. sdp_units it c.args.name.now ≡ Ok (units_view units.now)) (λ refused. sdp_units it c.args.name.now ≡ Err refused)) (sym c.in-H265.is) c.units-in-H265.ensures

pub returns-in-H266 : goal.returns-in-H266
returns-in-H266 c = subst (λ it. MatchResult c.units-in-H266.result (λ units. sdp_units it c.args.name.now ≡ Ok (units_view units.now)) (λ refused. sdp_units it c.args.name.now ≡ Err refused)) (sym c.in-H266.is) c.units-in-H266.ensures

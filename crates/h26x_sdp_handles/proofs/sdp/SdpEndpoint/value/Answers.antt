use Rattle.std.proofs.Common.{◌≡◌, ◌∙◌, Ok, Err, MatchResult, sym, ap, subst}
use Rattle.h26x_sdp_handles.specs.declared.sdp.SdpEndpoint.TheVariants as s
use Rattle.h26x_sdp_handles.specs.Sdp.{sdp_value}
use Rattle.h26x_sdp_handles.proofs.sdp.SdpEndpoint.value.Goals as goal

pub returns-in-H265 : goal.returns-in-H265
returns-in-H265 c = subst (λ it. MatchResult c.value_of-in-H265.result (λ value. sdp_value it c.args.name.now c.args.or_default ≡ Ok value.now) (λ code. sdp_value it c.args.name.now c.args.or_default ≡ Err code))
    (ap s.H265 c.parameters-in-H265.ensures ∙ sym c.in-H265.is) c.value_of-in-H265.ensures

pub returns-in-H266 : goal.returns-in-H266
returns-in-H266 c = subst (λ it. MatchResult c.value_of-in-H266.result (λ value. sdp_value it c.args.name.now c.args.or_default ≡ Ok value.now) (λ code. sdp_value it c.args.name.now c.args.or_default ≡ Err code))
    (ap s.H266 c.parameters-in-H266.ensures ∙ sym c.in-H266.is) c.value_of-in-H266.ensures

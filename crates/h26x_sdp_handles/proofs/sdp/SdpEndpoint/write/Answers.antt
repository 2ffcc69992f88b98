use Rattle.std.proofs.Common.{◌≡◌, ◌∙◌, IfOk, sym, ap, subst}
use Rattle.h26x_sdp_handles.specs.declared.sdp.SdpEndpoint.TheVariants as s
use Rattle.h26x_sdp_handles.specs.Sdp.{sdp_text}
use Rattle.h26x_sdp_handles.proofs.sdp.SdpEndpoint.write.Goals as goal

pub returns-in-H264 : goal.returns-in-H264
returns-in-H264 c = subst (λ it. IfOk c.write.result (λ text. text.items ≡ sdp_text it)) (ap s.H264 c.parameters.ensures ∙ sym c.in-H264.is) c.write.ensures

pub returns-in-H265 : goal.returns-in-H265
returns-in-H265 c = subst (λ it. IfOk c.write-in-H265.result (λ text. text.items ≡ sdp_text it)) (ap s.H265 c.parameters-in-H265.ensures ∙ sym c.in-H265.is) c.write-in-H265.ensures

pub returns-in-H266 : goal.returns-in-H266
returns-in-H266 c = subst (λ it. IfOk c.write-in-H266.result (λ text. text.items ≡ sdp_text it)) (ap s.H266 c.parameters-in-H266.ensures ∙ sym c.in-H266.is) c.write-in-H266.ensures

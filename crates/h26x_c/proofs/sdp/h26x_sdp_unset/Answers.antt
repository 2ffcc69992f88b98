use Rattle.std.proofs.Common.{Err, Some, refl, sym, ◌∙◌}
use Rattle.h26x_sdp_handles.specs.ChangedParameters.{sdp_without_value}
use Rattle.h26x_endpoint.specs.declared.endpoint.Endpoint.TheVariants as e
use Rattle.h26x_c.proofs.SdpLemmas.{is_changed}
use Rattle.h26x_c.proofs.sdp.h26x_sdp_unset.Goals as goal

pub returns-in-Err-clause-answer : goal.returns-in-Err-clause-answer
returns-in-Err-clause-answer c = is_changed c.args.h.now.value c.in-Sdp.it (λ it. sdp_without_value it c.args.name.now) (Err c.in-Err.code) c.in-Err.code (Some (e.Sdp c.in-Sdp.it)) (sym c.get_mut.ensures.value ∙ c.in-Sdp.is) refl c.in-Err.ensures

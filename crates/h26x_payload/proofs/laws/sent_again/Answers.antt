use Rattle.h26x_cut.specs.Cutting.{IsUnit}
use Rattle.h26x_model.proofs.SourceLemmas.{sent_again}
use Rattle.h26x_payload.proofs.UnitLemmas.{are_units, text_is_cut}
use Rattle.h26x_payload.proofs.laws.sent_again.Goals as goal

pub returns : goal.returns
returns c = λ f rule cuts call payloads units kept is apart.
    sent_again f IsUnit (are_units f rule cuts) call payloads units kept is (λ each. text_is_cut f rule cuts units each apart)

use Rattle.h26x_codec.specs.Codec.{codec_format}
use Rattle.h26x_examples.proofs.model_laws_met.plans_of_calls.Goals as goal

pub returns : goal.returns
returns c = λ codec has_donl. c.plans_call_by_call.ensures.plan (codec_format codec has_donl)

use Rattle.h26x_answers.proofs.ConfigurationsH264Lemmas.{h264_ours}
use Rattle.h26x_answers.proofs.ConfigurationsTieredLemmas.{h265_ours, h266_ours}
use Rattle.h26x_answers.proofs.laws.answers_are_by_offer_and_ours.Goals as goal

pub returns : goal.returns
returns c = record { h264 = h264_ours; h265 = h265_ours; h266 = h266_ours }

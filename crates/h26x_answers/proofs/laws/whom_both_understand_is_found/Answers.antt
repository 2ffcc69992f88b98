use Rattle.h26x_answers.specs.AnswersH264 as h264
use Rattle.h26x_answers.specs.AnswersH265 as h265
use Rattle.h26x_answers.specs.AnswersH266 as h266
use Rattle.h26x_answers.specs.ConfigurationsH264 as c264
use Rattle.h26x_answers.specs.ConfigurationsH265 as c265
use Rattle.h26x_answers.specs.ConfigurationsH266 as c266
use Rattle.h26x_answers.proofs.HeardLemmas.{h264_hears, h265_hears, h266_hears}
use Rattle.h26x_answers.proofs.AnswersLemmas.{found, comes_from}
use Rattle.h26x_answers.proofs.ConfigurationsH264Lemmas.{h264_common, h264_terms}
use Rattle.h26x_answers.proofs.ConfigurationsTieredLemmas.{h265_common, h265_terms, h266_common, h266_terms}
use Rattle.h26x_answers.proofs.laws.whom_both_understand_is_found.Goals as goal

pub returns : goal.returns
returns c = record {
  h264_found = λ by. found (h264.rules by) (c264.IsCommon by) (h264_hears by) (h264_terms by);
  h264_none = λ by. comes_from (h264.rules by) (c264.IsCommon by) (h264_hears by) (h264_common by);
  h265_found = λ by. found (h265.rules by) (c265.IsCommon by) (h265_hears by) (h265_terms by);
  h265_none = λ by. comes_from (h265.rules by) (c265.IsCommon by) (h265_hears by) (h265_common by);
  h266_found = found h266.rules c266.IsCommon h266_hears h266_terms;
  h266_none = comes_from h266.rules c266.IsCommon h266_hears h266_common;
}

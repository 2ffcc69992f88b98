use Rattle.h26x_answers.specs.AnswersH264 as h264
use Rattle.h26x_answers.specs.AnswersH265 as h265
use Rattle.h26x_answers.specs.AnswersH266 as h266
use Rattle.h26x_answers.specs.ConfigurationsH264 as c264
use Rattle.h26x_answers.specs.ConfigurationsH265 as c265
use Rattle.h26x_answers.specs.ConfigurationsH266 as c266
use Rattle.h26x_answers.proofs.ConfigurationsH264Lemmas.{h264_ours}
use Rattle.h26x_answers.proofs.ConfigurationsTieredLemmas.{h265_ours, h266_ours}
use Rattle.h26x_answers.proofs.HeardLemmas.{h264_hears, h265_hears, h266_hears, h264_tables, h265_tables, h266_tables}
use Rattle.h26x_answers.proofs.DirectionLemmas.{by_usable, in_each_direction, whole_both_ways}
use Rattle.h26x_answers.proofs.laws.answers_by_direction.Goals as goal

pub returns : goal.returns
returns c = record {
  h264_usable = λ by. by_usable (h264.rules by) (h264_tables by);
  h265_usable = λ by. by_usable (h265.rules by) (h265_tables by);
  h266_usable = by_usable h266.rules h266_tables;
  h264 = λ by. in_each_direction (h264.rules by) (h264_tables by) (h264_hears by) (c264.IsOurAnswer by) (h264_ours by);
  h265 = λ by. in_each_direction (h265.rules by) (h265_tables by) (h265_hears by) (c265.IsOurAnswer by) (h265_ours by);
  h266 = in_each_direction h266.rules h266_tables h266_hears c266.IsOurAnswer h266_ours;
  both_ways = whole_both_ways;
}

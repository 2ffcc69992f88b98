use Rattle.h26x_answers.specs.AnswersH264 as h264
use Rattle.h26x_answers.specs.AnswersH265 as h265
use Rattle.h26x_answers.specs.AnswersH266 as h266
use Rattle.h26x_answers.specs.AllowedH264.{IsH264Answer}
use Rattle.h26x_answers.specs.AllowedByLevel.{IsAnswerByLevel}
use Rattle.h26x_answers.proofs.AnswersH264Lemmas.{allowed}
use Rattle.h26x_answers.proofs.TieredLemmas.{h265_allowed, h266_allowed}
use Rattle.h26x_answers.proofs.HeardLemmas.{h264_hears, h265_hears, h266_hears, h264_tables, h265_tables, h266_tables}
use Rattle.h26x_answers.proofs.DirectionLemmas.{in_each_direction}
use Rattle.h26x_answers.proofs.laws.directed_answers_are_allowed.Goals as goal

pub returns : goal.returns
returns c = record {
  h264 = λ by. in_each_direction (h264.rules by) (h264_tables by) (h264_hears by) (λ offered _ answer. IsH264Answer by offered answer) (allowed by);
  h265 = λ by. in_each_direction (h265.rules by) (h265_tables by) (h265_hears by) (λ offered _ answer. IsAnswerByLevel (h265.rules by) h265.by offered answer) (h265_allowed by);
  h266 = in_each_direction h266.rules h266_tables h266_hears (λ offered _ answer. IsAnswerByLevel h266.rules h266.by offered answer) h266_allowed;
}

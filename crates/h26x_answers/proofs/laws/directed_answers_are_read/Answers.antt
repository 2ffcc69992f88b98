use Rattle.h26x_sdp.specs.H264Rows as h264
use Rattle.h26x_sdp.specs.H265Rows as h265
use Rattle.h26x_sdp.specs.H266Rows as h266
use Rattle.h26x_answers.specs.AnswersH264 as h264_answers
use Rattle.h26x_answers.specs.AnswersH265 as h265_answers
use Rattle.h26x_answers.specs.AnswersH266 as h266_answers
use Rattle.h26x_fmtp.proofs.AgainLemmas.{read_again}
use Rattle.h26x_sdp.proofs.RowLemmas.{h264_table, h265_table, h266_table}
use Rattle.h26x_answers.proofs.KeptH264Lemmas.{answers_kept}
use Rattle.h26x_answers.proofs.TieredAgainLemmas.{h265_kept, h266_kept}
use Rattle.h26x_answers.proofs.HeardLemmas.{h264_hears, h265_hears, h266_hears, h264_unsent, h265_unsent, h266_unsent, h264_tables, h265_tables, h266_tables}
use Rattle.h26x_answers.proofs.DirectionLemmas.{kept_in_each_direction}
use Rattle.h26x_answers.proofs.laws.directed_answers_are_read.Goals as goal

pub returns : goal.returns
returns c = record {
  h264 = λ by direction offered own answer of_offered of_own h. read_again h264.rows answer h264_table
      (kept_in_each_direction (h264_answers.rules by) (h264_tables by) h264_unsent (h264_hears by) (answers_kept by) direction offered own answer of_offered of_own h);
  h265 = λ by direction offered own answer of_offered of_own h. read_again h265.rows answer h265_table
      (kept_in_each_direction (h265_answers.rules by) (h265_tables by) h265_unsent (h265_hears by) (h265_kept by) direction offered own answer of_offered of_own h);
  h266 = λ direction offered own answer of_offered of_own h. read_again h266.rows answer h266_table
      (kept_in_each_direction h266_answers.rules h266_tables h266_unsent h266_hears h266_kept direction offered own answer of_offered of_own h);
}

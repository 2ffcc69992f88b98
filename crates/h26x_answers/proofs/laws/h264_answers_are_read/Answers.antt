use Rattle.h26x_sdp.specs.H264Rows.{rows}
use Rattle.h26x_fmtp.proofs.AgainLemmas.{read_again}
use Rattle.h26x_sdp.proofs.RowLemmas.{h264_table}
use Rattle.h26x_answers.proofs.KeptH264Lemmas.{answers_kept}
use Rattle.h26x_answers.proofs.laws.h264_answers_are_read.Goals as goal

pub returns : goal.returns
returns c = record {
  parameters = answers_kept;
  read = λ by offered own answer of_offered of_own h. read_again rows answer h264_table (answers_kept by offered own answer of_offered of_own h);
}

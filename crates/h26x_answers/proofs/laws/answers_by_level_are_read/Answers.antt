use Rattle.h26x_sdp.specs.H265Rows as h265
use Rattle.h26x_sdp.specs.H266Rows as h266
use Rattle.h26x_fmtp.proofs.AgainLemmas.{read_again}
use Rattle.h26x_sdp.proofs.RowLemmas.{h265_table, h266_table}
use Rattle.h26x_answers.proofs.TieredAgainLemmas.{h265_kept, h266_kept}
use Rattle.h26x_answers.proofs.laws.answers_by_level_are_read.Goals as goal

pub returns : goal.returns
returns c = record {
  h265 = λ by offered own answer of_offered of_own h. read_again h265.rows answer h265_table (h265_kept by offered own answer of_offered of_own h);
  h266 = λ offered own answer of_offered of_own h. read_again h266.rows answer h266_table (h266_kept offered own answer of_offered of_own h);
}

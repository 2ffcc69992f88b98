use Rattle.h26x_answers.proofs.ByLevelLemmas.{sends_forth_by_level, sends_back_by_level}
use Rattle.h26x_answers.proofs.TieredLemmas.{h265_allowed, h266_allowed}
use Rattle.h26x_answers.proofs.laws.answers_by_level_are_allowed.Goals as goal

pub returns : goal.returns
returns c = record {
  h265 = h265_allowed;
  h266 = h266_allowed;
  forth = sends_forth_by_level;
  back = sends_back_by_level;
}

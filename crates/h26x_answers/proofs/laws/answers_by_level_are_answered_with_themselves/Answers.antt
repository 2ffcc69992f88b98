use Rattle.h26x_answers.proofs.TieredAgainLemmas.{h265_again, h266_again}
use Rattle.h26x_answers.proofs.laws.answers_by_level_are_answered_with_themselves.Goals as goal

pub returns : goal.returns
returns c = record {
  h265 = λ by offered own answer of_offered of_own h holds. h265_again by offered own answer of_offered of_own holds h;
  h266 = λ offered own answer of_offered of_own h holds. h266_again offered own answer of_offered of_own holds h;
}

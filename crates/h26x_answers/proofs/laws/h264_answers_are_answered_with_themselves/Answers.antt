use Rattle.h26x_answers.proofs.KeptH264Lemmas.{again}
use Rattle.h26x_answers.proofs.laws.h264_answers_are_answered_with_themselves.Goals as goal

pub returns : goal.returns
returns c = λ by offered own answer of_offered of_own h holds. again by offered own answer of_offered of_own holds h

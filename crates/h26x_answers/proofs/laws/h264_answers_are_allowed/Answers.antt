use Rattle.h26x_answers.proofs.AnswersH264Lemmas.{allowed, sends_forth, sends_back}
use Rattle.h26x_answers.proofs.laws.h264_answers_are_allowed.Goals as goal

pub returns : goal.returns
returns c = record { allowed = allowed; forth = sends_forth; back = sends_back }

use Rattle.h26x_model.proofs.LossLemmas.{items_left}
use Rattle.h26x_model.proofs.laws.loss_stays_within.Goals as goal

pub returns : goal.returns
returns c = λ f sound n items masks earlier send fit. items_left f n items masks earlier sound send fit

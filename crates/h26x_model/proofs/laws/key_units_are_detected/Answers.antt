use Rattle.h26x_model.proofs.DetectionLemmas.{are_detected}
use Rattle.h26x_model.proofs.laws.key_units_are_detected.Goals as goal

pub returns : goal.returns
returns c = are_detected

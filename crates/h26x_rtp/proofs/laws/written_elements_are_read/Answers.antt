use Rattle.std.proofs.Common.{refl}
use Rattle.h26x_rtp.proofs.ElementLemmas.{element_found, padding_passed}
use Rattle.h26x_rtp.proofs.laws.written_elements_are_read.Goals as goal

pub returns : goal.returns
returns c = record { element = element_found; padding = padding_passed; none = λ form. refl }

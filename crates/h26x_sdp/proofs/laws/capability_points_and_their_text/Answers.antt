use Rattle.h26x_sdp.proofs.CapabilityPointsLemmas.{points_written, points_again}
use Rattle.h26x_sdp.proofs.laws.capability_points_and_their_text.Goals as goal

pub returns : goal.returns
returns c = record { read = points_written; again = points_again }

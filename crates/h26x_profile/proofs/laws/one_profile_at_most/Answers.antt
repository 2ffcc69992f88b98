use Rattle.h26x_profile.proofs.ProfileLemmas.{one_row}
use Rattle.h26x_profile.proofs.laws.one_profile_at_most.Goals as goal

pub returns : goal.returns
returns c = one_row

use Rattle.std.proofs.Common.{false, true, [], ◌∷◌, refl}
use Rattle.h26x_reorder.specs.Rtp.{rtp_body}
use Rattle.h26x_access_units.specs.WholeSent.{first_one, next_one, bare_one}
use Rattle.h26x_access_units.proofs.whole_cases.packets_of_an_access_unit.Goals as goal

pub returns-clause-three : goal.returns-clause-three
returns-clause-three c r text = next_one (0, rtp_body 5 true (1 ∷ [])) (bare_one (65535, rtp_body 9 false []) (first_one refl text) refl) refl text

use Rattle.h26x_access_units.proofs.DecodableLemmas.{clean_is_decodable}
use Rattle.h26x_access_units.proofs.laws.clean_access_units_can_be_decoded.Goals as goal

pub returns : goal.returns
returns c = clean_is_decodable

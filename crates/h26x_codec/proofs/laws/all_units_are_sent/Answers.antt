use Rattle.h26x_cut.specs.Cutting.{units_of}
use Rattle.h26x_codec.specs.Codec.{zero_rule}
use Rattle.h26x_codec.proofs.SentLemmas.{all_sent, own_place}
use Rattle.h26x_codec.proofs.laws.all_units_are_sent.Goals as goal

pub returns-clause-units : goal.returns-clause-units
returns-clause-units c = λ codec access_unit. all_sent codec (units_of (zero_rule codec) access_unit)

pub returns-clause-places : goal.returns-clause-places
returns-clause-places c = λ codec access_unit place within. own_place codec (units_of (zero_rule codec) access_unit) place within

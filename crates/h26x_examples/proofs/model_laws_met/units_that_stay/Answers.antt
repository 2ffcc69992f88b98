use Rattle.h26x_codec.specs.Codec.{codec_format}
use Rattle.h26x_examples.proofs.model_laws_met.units_that_stay.Goals as goal

pub returns-clause-room : goal.returns-clause-room
returns-clause-room c = λ codec has_donl. c.only_sets_are_dropped.ensures.room (codec_format codec has_donl)

pub returns-clause-last : goal.returns-clause-last
returns-clause-last c = λ codec has_donl. c.only_sets_are_dropped.ensures.last (codec_format codec has_donl) (c.formats_meet_the_facts.ensures codec has_donl).sets

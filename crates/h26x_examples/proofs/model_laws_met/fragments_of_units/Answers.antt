use Rattle.h26x_codec.specs.Codec.{codec_format}
use Rattle.h26x_examples.proofs.model_laws_met.fragments_of_units.Goals as goal

pub returns-clause-joined : goal.returns-clause-joined
returns-clause-joined c = λ codec has_donl n limit unit unfit kept whole. (c.fragments_by_place.ensures.are (codec_format codec has_donl) n limit unit unfit kept whole).joined

pub returns-clause-read : goal.returns-clause-read
returns-clause-read c = λ codec has_donl. c.fragments_by_place.ensures.read (codec_format codec has_donl) (c.formats_meet_the_facts.ensures codec has_donl).reads

pub returns-clause-apart : goal.returns-clause-apart
returns-clause-apart c = λ codec has_donl n limit j unit unfit kept whole below.
    (c.fragments_by_place.ensures.marked (codec_format codec has_donl) (c.formats_meet_the_facts.ensures codec has_donl).marks n limit unit unfit kept whole).apart j below

use Rattle.std.proofs.Common.{◌∙◌, ap, sym}
use Rattle.h26x_model.specs.Send.Group.{Split}
use Rattle.h26x_codec.specs.Codec.{codec_format}
use Rattle.h26x_examples.proofs.model_laws_met.groups_of_entries.Goals as goal

pub returns-clause-are : goal.returns-clause-are
returns-clause-are c = λ codec has_donl. c.one_grouping.ensures.is (codec_format codec has_donl)

pub returns-clause-one : goal.returns-clause-one
returns-clause-one c = λ codec has_donl entries a b x y first second.
    ap (λ (it : Split). it.groups) (sym (c.one_grouping.ensures.only (codec_format codec has_donl) entries a x first) ∙ c.one_grouping.ensures.only (codec_format codec has_donl) entries b y second)

use Rattle.std.proofs.Common.{false, sym, ◌∙◌}
use Rattle.h26x_core.specs.ByteStream.{byte_stream}
use Rattle.h26x_codec.specs.Codec.{zero_rule}
use Rattle.h26x_codec.proofs.RuleLemmas.{cuts_by_its_rule}
use Rattle.h26x_codec.proofs.PlainLemmas.{are_separable, are_units, ends_behind}
use Rattle.h26x_codec.proofs.laws.plain_units_are_told_apart.Goals as goal

pub returns-clause-units : goal.returns-clause-units
returns-clause-units c = λ codec units plain.
    c.text_is_cut_into_its_units.ensures (zero_rule codec) units (are_units codec units plain) (are_separable (zero_rule codec) codec units plain)

pub returns-clause-read : goal.returns-clause-read
returns-clause-read c = λ codec has_donl units plain.
    cuts_by_its_rule codec has_donl (byte_stream false units)
    ∙ sym (c.one_cutting.ensures.only_units (zero_rule codec) (byte_stream false units) units (returns-clause-units c codec units plain))

pub returns-clause-ends : goal.returns-clause-ends
returns-clause-ends c = λ codec unit units place plain (before, after, byte, low, same, at).
    rw at (ends_behind unit (byte_stream false units) before after byte plain.text low same)

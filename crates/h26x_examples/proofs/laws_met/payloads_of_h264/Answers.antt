use Rattle.h264_payload.specs.H264.{h264}
use Rattle.h26x_cut.specs.declared.ZeroRule.TheVariants.{All}
use Rattle.h26x_examples.proofs.laws_met.payloads_of_h264.Goals as goal

pub returns-clause-not_empty : goal.returns-clause-not_empty
returns-clause-not_empty c = c.units_are_whole.ensures.not_empty h264 All c.cuts_by_its_rule.ensures

pub returns-clause-no_code : goal.returns-clause-no_code
returns-clause-no_code c = c.units_are_whole.ensures.no_code h264 All c.cuts_by_its_rule.ensures

pub returns-clause-cut : goal.returns-clause-cut
returns-clause-cut c = c.text_is_cut_into_its_units.ensures h264 All c.cuts_by_its_rule.ensures

use Rattle.std.proofs.Common.{sym, subst}
use Rattle.h26x_model.specs.Payload.Facts.{IsPayloadFormat}
use Rattle.h26x_codec.specs.Codec.{codec_format}
use Rattle.h26x_examples.proofs.laws_met.nothing_else_is_sent.Goals as goal

pub returns-clause-came : goal.returns-clause-came
returns-clause-came c = c.what_is_sent_came.ensures

pub returns-clause-left_out : goal.returns-clause-left_out
returns-clause-left_out c = λ codec has_donl s before later call sends is free.
    (c.calls_without_effect.ensures s (subst IsPayloadFormat (sym sends) (c.formats_meet_the_facts.ensures codec has_donl)) is before later call free).1

pub returns-clause-again : goal.returns-clause-again
returns-clause-again c = λ codec has_donl. c.what_was_written_is_sent_again.ensures (codec_format codec has_donl)

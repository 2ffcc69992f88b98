use Rattle.std.proofs.Common.{ℕ, List, ap, ◌∙◌, sym}
use Rattle.h26x_model.specs.Send.Plan.{units_sent}
use Rattle.h26x_model.specs.Send.WaitingSets.{entries_with_limit}
use Rattle.h26x_codec.specs.Codec.{codec_format}
use Rattle.h26x_transmission.proofs.laws.what_was_sent_is_sent_again.Goals as goal

pub returns : goal.returns
returns c = λ codec has_donl limit units sent kept is.
    let f = codec_format codec has_donl in
    ap (λ (us : List (List ℕ)). units_sent f (entries_with_limit limit us)) is
    ∙ (c.what_was_sent_is_sent_again.ensures f limit units kept).same_units ∙ sym is

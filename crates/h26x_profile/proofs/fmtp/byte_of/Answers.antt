use Rattle.std.proofs.Common.{sym, ap, ◌∙◌}
use Rattle.std.specs.Prelude.{string_bytes}
use Rattle.std.specs.Option.{option_and_then, option_copied}
use Rattle.h26x_profile.specs.Parameters.{byte_of}
use Rattle.h26x_profile.proofs.TextLemmas.{parsed_byte}
use Rattle.h26x_profile.proofs.fmtp.byte_of.Goals as goal

pub returns : goal.returns
returns c =
    c.ok.ensures.value
    ∙ parsed_byte c.deref.result.now c.parse.result c.parse.ensures.value.0
    ∙ ap byte_of c.deref.ensures
    ∙ ap (option_and_then (λ text. byte_of (string_bytes text))) (ap option_copied (sym c.in_ok-get.was) ∙ c.get.ensures.value)

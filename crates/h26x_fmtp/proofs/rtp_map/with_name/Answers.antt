use Rattle.std.proofs.Common.{◌≡◌, ◌∙◌, ℕ, List, Option, Some, None, ap, sym}
use Rattle.std.specs.Prelude.{◌==◌}
use Rattle.std.specs.List.{before_first, after_first}
use Rattle.h26x_fmtp.specs.declared.rtp_map.Encoding.{Encoding}
use Rattle.h26x_fmtp.specs.Pairs.{trim_ascii}
use Rattle.h26x_fmtp.specs.RtpMaps.{encoding_of, with_clock, with_encoding}
use Rattle.h26x_fmtp.proofs.rtp_map.with_name.Goals as goal

-- what the name says, and what stands behind it
abbrev named : List ℕ → Option Encoding
named text = encoding_of (before_first (λ b. b == 47) text)

abbrev clock_of : List ℕ → List ℕ
clock_of text = after_first (λ b. b == 47) text

pub returns-in-Some : goal.returns-in-Some
returns-in-Some c =
    let text : List ℕ = trim_ascii c.args.rest.now in
    let known : named (trim_ascii c.args.rest.now) ≡ Some c.in-Some.encoding =
    ap named (sym c.trimmed.ensures) ∙ ap encoding_of (sym c.cut.ensures.before) ∙ sym c.of_name.ensures ∙ c.in-Some.is in
    c.with_clock.ensures
    ∙ ap (with_clock c.args.payload_type c.in-Some.encoding) (c.cut.ensures.behind ∙ ap clock_of c.trimmed.ensures)
    ∙ sym (ap (with_encoding c.args.payload_type (clock_of text)) known)

pub returns-in-None : goal.returns-in-None
returns-in-None c =
    let text : List ℕ = trim_ascii c.args.rest.now in
    let unknown : named (trim_ascii c.args.rest.now) ≡ None =
    ap named (sym c.trimmed.ensures) ∙ ap encoding_of (sym c.cut.ensures.before) ∙ sym c.of_name.ensures ∙ c.in-None.is in
    sym (ap (with_encoding c.args.payload_type (clock_of text)) unknown)

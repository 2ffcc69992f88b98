use Rattle.std.proofs.Common.{◌≡◌, ◌∙◌, ℕ, List, Option, Some, None, ap, sym}
use Rattle.std.specs.Prelude.{◌==◌}
use Rattle.std.specs.List.{before_first, after_first}
use Rattle.h26x_fmtp.specs.Pairs.{trim_ascii}
use Rattle.h26x_fmtp.specs.RtpMaps.{payload_type_in, with_name, with_payload_type}
use Rattle.h26x_fmtp.proofs.rtp_map.RtpMap.read.Goals as goal

-- the payload type before the first blank, and what stands behind it
abbrev number_of : List ℕ → Option ℕ
number_of text = payload_type_in (before_first (λ b. b == 32) text)

abbrev behind : List ℕ → List ℕ
behind text = after_first (λ b. b == 32) text

pub returns-in-Some : goal.returns-in-Some
returns-in-Some c =
    let text : List ℕ = trim_ascii c.args.text.now in
    let known : number_of (trim_ascii c.args.text.now) ≡ Some c.in-Some.payload_type =
    ap number_of (sym c.trimmed.ensures) ∙ ap payload_type_in (sym c.cut.ensures.before) ∙ sym c.payload_type_in.ensures ∙ c.in-Some.is in
    c.with_name.ensures
    ∙ ap (with_name c.in-Some.payload_type) (c.cut.ensures.behind ∙ ap behind c.trimmed.ensures)
    ∙ sym (ap (with_payload_type (behind text)) known)

pub returns-in-None : goal.returns-in-None
returns-in-None c =
    let text : List ℕ = trim_ascii c.args.text.now in
    let unknown : number_of (trim_ascii c.args.text.now) ≡ None =
    ap number_of (sym c.trimmed.ensures) ∙ ap payload_type_in (sym c.cut.ensures.before) ∙ sym c.payload_type_in.ensures ∙ c.in-None.is in
    sym (ap (with_payload_type (behind text)) unknown)

use Rattle.std.proofs.Common.{◌≡◌, ◌∙◌, ℕ, List, ap}
use Rattle.std.specs.Prelude.{◌==◌}
use Rattle.std.specs.List.{before_first, after_first}
use Rattle.h26x_fmtp.specs.Pairs.{trim_ascii}
use Rattle.h26x_fmtp.specs.RtpMaps.{payload_type_in}
use Rattle.h26x_fmtp.specs.RepairMaps.{repair_format_of, behind_number, of_parts}
use Rattle.h26x_fmtp.proofs.repair_map.RepairMap.read.Goals as goal

-- what stands before a byte, and behind it
abbrev before : ℕ → List ℕ → List ℕ
before mark text = before_first (λ b. b == mark) text

abbrev behind : ℕ → List ℕ → List ℕ
behind mark text = after_first (λ b. b == mark) text

pub returns : goal.returns
returns c =
    let number = c.payload_type_in-payload_type.ensures ∙ ap payload_type_in (c.cut.ensures.before ∙ ap (before 32) c.trimmed.ensures) in
    let rest : c.trimmed-2.result.now ≡ behind_number c.args.text.now = c.trimmed-2.ensures ∙ ap trim_ascii (c.cut.ensures.behind ∙ ap (behind 32) c.trimmed.ensures) in
    let format = c.of_name-format.ensures ∙ ap repair_format_of (c.cut-2.ensures.before ∙ ap (before 47) rest) in
    let clock = c.cut-2.ensures.behind ∙ ap (behind 47) rest in
    c.of_parts.ensures ∙ (λ i. of_parts (number i) (format i) (clock i))

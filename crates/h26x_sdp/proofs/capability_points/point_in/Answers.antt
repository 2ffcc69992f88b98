use Rattle.std.proofs.Common.{◌≡◌, ◌∙◌, ℕ, List, Option, Some, Result, Ok, Err, ap, sym, subst}
use Rattle.std.specs.Prelude.{◌==◌}
use Rattle.std.specs.List.{before_first, after_first}
use Rattle.h26x_fmtp.specs.declared.error.Fault.{Fault}
use Rattle.h26x_sdp.specs.declared.capability_points.ParallelTool.{ParallelTool}
use Rattle.h26x_fmtp.specs.Pairs.{trim_ascii}
use Rattle.h26x_fmtp.specs.Reading.{read_of}
use Rattle.h26x_sdp.specs.CapabilityPoints.{limit_rows, tool_of, segmentation_in, with_limits, with_segmentation, with_tool, before_limits}
use Rattle.h26x_sdp.specs.CapabilityPointsViews.{SaysPoint}
use Rattle.h26x_sdp.proofs.capability_points.point_in.Goals as goal

-- the tool and the number before the limits
abbrev tool_before : List ℕ → Option ParallelTool
tool_before head = tool_of (trim_ascii (before_first (λ b. b == 58) head))

abbrev number_before : List ℕ → Result ℕ Fault
number_before head = segmentation_in (trim_ascii (after_first (λ b. b == 58) head))

pub returns-in-Ok : goal.returns-in-Ok
returns-in-Ok c =
    let head : List ℕ = before_limits c.args.text.now in
    let number : List ℕ = trim_ascii (after_first (λ b. b == 58) head) in
    let limits : List ℕ = after_first (λ b. b == 59) c.args.text.now in
    let tool : tool_before (before_limits c.args.text.now) ≡ Some c.in-Some.tool =
    ap tool_before (sym c.cut.ensures.before) ∙ ap (λ t. tool_of (trim_ascii t)) (sym c.cut-2.ensures.before) ∙ ap tool_of (sym c.trimmed.ensures) ∙ sym c.of_name.ensures ∙ c.in-Some.is in
    let known : number_before (before_limits c.args.text.now) ≡ Ok c.in-Ok.segmentation =
    ap number_before (sym c.cut.ensures.before) ∙ ap (λ t. segmentation_in (trim_ascii t)) (sym c.cut-2.ensures.behind) ∙ ap segmentation_in (sym c.trimmed-2.ensures) ∙ sym c.segmentation_in.ensures ∙ c.in-Ok.is in
    subst (SaysPoint c.with_limits.result)
    (ap (λ l. with_limits c.args.place c.in-Some.tool c.in-Ok.segmentation (read_of limit_rows l)) c.cut.ensures.behind
    ∙ sym (ap (with_segmentation c.args.place c.in-Some.tool limits) known)
    ∙ sym (ap (with_tool c.args.place number limits) tool))
    c.with_limits.ensures

pub returns-in-Err : goal.returns-in-Err
returns-in-Err c =
    let head : List ℕ = before_limits c.args.text.now in
    let number : List ℕ = trim_ascii (after_first (λ b. b == 58) head) in
    let limits : List ℕ = after_first (λ b. b == 59) c.args.text.now in
    let tool : tool_before (before_limits c.args.text.now) ≡ Some c.in-Some.tool =
    ap tool_before (sym c.cut.ensures.before) ∙ ap (λ t. tool_of (trim_ascii t)) (sym c.cut-2.ensures.before) ∙ ap tool_of (sym c.trimmed.ensures) ∙ sym c.of_name.ensures ∙ c.in-Some.is in
    let none : number_before (before_limits c.args.text.now) ≡ Err c.in-Err.fault =
    ap number_before (sym c.cut.ensures.before) ∙ ap (λ t. segmentation_in (trim_ascii t)) (sym c.cut-2.ensures.behind) ∙ ap segmentation_in (sym c.trimmed-2.ensures) ∙ sym c.segmentation_in.ensures ∙ c.in-Err.is in
    ap (with_tool c.args.place number limits) tool ∙ ap (with_segmentation c.args.place c.in-Some.tool limits) none

use Rattle.std.proofs.Common.{◌∙◌, ◌++◌, ◌+◌, ◌<◌, ℕ, Option, ap, arith, drop, get_or, length, map, sym}
use Rattle.std.specs.Prelude.{Vec}
use Rattle.std.specs.declared.alloc.Global.{Global}
use Rattle.h26x_fmtp.specs.declared.table.ParameterRow.{ParameterRow}
use Rattle.h26x_fmtp.specs.Parameters.{with_given}
use Rattle.h26x_fmtp.specs.Reading.{given_pairs, all_of}
use Rattle.h26x_fmtp.specs.TableViews.{row_view}
use Rattle.h26x_fmtp.specs.ParametersViews.{view, value_view, others_view}
use Rattle.h26x_fmtp.proofs.ReadingLemmas.{written_on, written_all, given_next}
use Rattle.h26x_fmtp.proofs.parameters.write.Goals as goal

pub loop-place-init : goal.loop-place-init
loop-place-init c =
    let all = all_of (map row_view c.args.rows.now) (view c.args.it.now) in
    ap (λ t. written_on t all) c.new-text.ensures.items ∙ written_all all

pub loop-place-preserved : goal.loop-place-preserved
loop-place-preserved c =
    let rows = c.args.rows.now in
    let values = c.args.it.now.values.items in
    let i = c.loop-place.place in
    let text = c.loop-place.text.items in
    let row = c.row_at.result.now in
    let value = c.index.result.now in
    let others = others_view c.args.it.now.others in
    let rest = given_pairs (map row_view (drop (i + 1) rows)) (map value_view (drop (i + 1) values)) ++ others in
    let in_rows : i < length rows = omega arith in
    let in_values : i < length values = omega (arith, c.args.it.now.values.ok.0) in
    let step = given_next text rows values others i row value in_rows in_values in
    ap (λ t. written_on t rest) c.in_ok-push_value.ensures
    ∙ ap (λ (r : ParameterRow). written_on (with_given text (row_view r) (value_view value)) rest) c.row_at.ensures
    ∙ ap (λ (v : Option (Vec ℕ Global)). written_on (with_given text (row_view (get_or rows i row)) (value_view v)) rest) c.index.ensures
    ∙ sym step ∙ c.loop-place.invariant

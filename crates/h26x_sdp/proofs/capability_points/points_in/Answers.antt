use Rattle.std.proofs.Common.{◌≡◌, ◌+◌, ◌∙◌, ◌++◌, ◌∷◌, [], Some, Ok, ap, sym, subst, rules}
use Rattle.std.specs.Prelude.{vec_len}
use Rattle.std.specs.Option.{option_map_or}
use Rattle.std.proofs.lemmas.Result.{err_from_is_err_and}
use Rattle.h26x_fmtp.specs.Units.{pieces}
use Rattle.h26x_sdp.specs.CapabilityPoints.{point_in, points_from}
use Rattle.h26x_sdp.specs.CapabilityPointsViews.{FailsPoints}
use Rattle.h26x_sdp.proofs.CapabilityPointsLemmas.{behind_points, point_more, point_stops}
use Rattle.h26x_sdp.proofs.capability_points.points_in.Goals as goal

pub returns-in_err-point : goal.returns-in_err-point
returns-in_err-point c =
    let (e, err, same) = err_from_is_err_and c.from_residual.result c.from_residual.ensures.1 in
    let before = c.loop-rest.points.items in
    let place = vec_len c.loop-rest.points in
    let text = c.split_piece.result.0.now in
    let more = option_map_or (λ rest. pieces rest.now) c.split_piece.result.1 [] in
    let given : c.loop-rest.rest ≡ Some c.in-Some.text = search rules in
    let refused : FailsPoints c.in_err-point.field-0.0 (point_in place text) = subst (λ n. FailsPoints c.in_err-point.field-0.0 (point_in n text)) c.len.ensures c.in_err-point.ensures in
    let so_far : behind_points before (points_from place (pieces c.in-Some.text.now)) ≡ points_from 0 (pieces c.args.text.now) =
    ap (λ o. behind_points before (points_from place (option_map_or (λ rest. pieces rest.now) o []))) (sym given) ∙ c.loop-rest.invariant in
    rw (err, same)
    (point_stops before place c.in_err-point.field-0.0 text (pieces c.in-Some.text.now) more (points_from 0 (pieces c.args.text.now)) c.split_piece.ensures.pieces refused so_far)

pub loop-rest-preserved : goal.loop-rest-preserved
loop-rest-preserved c =
    let before = c.loop-rest.points.items in
    let place = vec_len c.loop-rest.points in
    let text = c.split_piece.result.0.now in
    let more = option_map_or (λ rest. pieces rest.now) c.split_piece.result.1 [] in
    let pushed : c.push.new.self.items ≡ c.loop-rest.points.items ++ c.in_ok-point.point ∷ [] = search rules in
    let len : vec_len c.push.new.self ≡ vec_len c.loop-rest.points + 1 = search rules in
    let given : c.loop-rest.rest ≡ Some c.in-Some.text = search rules in
    let read : point_in place text ≡ Ok c.in_ok-point.point = search rules in
    let so_far : behind_points before (points_from place (pieces c.in-Some.text.now)) ≡ points_from 0 (pieces c.args.text.now) =
    ap (λ o. behind_points before (points_from place (option_map_or (λ rest. pieces rest.now) o []))) (sym given) ∙ c.loop-rest.invariant in
    ap (λ l. behind_points l (points_from (vec_len c.push.new.self) more)) pushed
    ∙ ap (λ n. behind_points (before ++ c.in_ok-point.point ∷ []) (points_from n more)) len
    ∙ point_more before place c.in_ok-point.point text (pieces c.in-Some.text.now) more (points_from 0 (pieces c.args.text.now)) c.split_piece.ensures.pieces read so_far

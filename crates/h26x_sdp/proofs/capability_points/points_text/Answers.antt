use Rattle.std.proofs.Common.{◌≡◌, ◌∙◌, ap, map, rules, sym}
use Rattle.h26x_sdp.specs.CapabilityPoints.{point_text, points_text}
use Rattle.h26x_sdp.proofs.CapabilityPointsLemmas.{texts_on, texts_all}
use Rattle.h26x_sdp.proofs.capability_points.points_text.Goals as goal

pub loop-point-init : goal.loop-point-init
loop-point-init c =
    let others = map point_text c.in-Some.others.now in
    let first : c.push_point.new.text.items ≡ point_text c.in-Some.first.now = search rules in
    ap (λ t. texts_on 44 t others) first ∙ texts_all 44 (point_text c.in-Some.first.now) others ∙ ap points_text (sym c.in-Some.ensures.cases.0)

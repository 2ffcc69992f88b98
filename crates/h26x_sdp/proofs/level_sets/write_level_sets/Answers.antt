use Rattle.std.proofs.Common.{◌≡◌, ◌∙◌, ap, rules, sym}
use Rattle.h26x_sdp.specs.LevelSets.{level_sets_text}
use Rattle.h26x_sdp.specs.LevelSetsViews.{level_view, levels_view}
use Rattle.h26x_sdp.proofs.LevelSetsLemmas.{level_text, levels_on, levels_all}
use Rattle.h26x_sdp.proofs.level_sets.write_level_sets.Goals as goal

pub loop-level-init : goal.loop-level-init
loop-level-init c =
    let others = levels_view c.in-Some.others.now in
    let first : c.push_level.new.text.items ≡ level_text (level_view c.in-Some.first.now) = search rules in
    ap (λ t. levels_on t others) first ∙ levels_all (level_view c.in-Some.first.now) others ∙ ap (λ l. level_sets_text (levels_view l)) (sym c.in-Some.ensures.cases.0)

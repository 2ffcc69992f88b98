use Rattle.std.proofs.Common.{◌≡◌, drop}
use Rattle.h26x_sdp.specs.LevelSets.{level_sets_text}
use Rattle.h26x_sdp.specs.LevelSetsViews.{levels_view}
use Rattle.h26x_sdp.proofs.LevelSetsLemmas.{levels_on}
use Rattle.h26x_sdp.proofs.level_sets.write_level_sets.Given as goal

abbrev pub invariant-loop-level : goal.invariant-loop-level
invariant-loop-level l = levels_on l.text.items (levels_view (drop l.level-index l.others)) ≡ level_sets_text (levels_view l.levels)

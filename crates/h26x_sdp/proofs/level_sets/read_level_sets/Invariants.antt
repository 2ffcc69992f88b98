use Rattle.std.proofs.Common.{◌≡◌, ◌+◌, length, []}
use Rattle.std.specs.Prelude.{vec_len}
use Rattle.std.specs.Option.{option_map_or}
use Rattle.h26x_fmtp.specs.Units.{pieces_at}
use Rattle.h26x_sdp.specs.LevelSets.{levels_from, level_sets_in}
use Rattle.h26x_sdp.specs.LevelSetsViews.{levels_view}
use Rattle.h26x_sdp.proofs.LevelSetsLemmas.{behind_levels}
use Rattle.h26x_sdp.proofs.level_sets.read_level_sets.Given as goal

abbrev pub invariant-loop-rest : goal.invariant-loop-rest
invariant-loop-rest l = behind_levels (levels_view l.levels.items) (levels_from (vec_len l.levels) (option_map_or (λ rest. pieces_at 58 rest.now) l.rest [])) ≡ level_sets_in l.text

abbrev pub decreases-loop-rest : goal.decreases-loop-rest
decreases-loop-rest l = option_map_or (λ rest. length rest.now + 1) l.rest 0

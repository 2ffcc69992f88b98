use Rattle.std.proofs.Common.{◌≡◌, ◌+◌, ◌∙◌, ◌++◌, ◌∷◌, [], Some, Ok, sym, ap, rules}
use Rattle.std.specs.Prelude.{vec_len}
use Rattle.std.proofs.lemmas.List.{map-append}
use Rattle.std.specs.Option.{option_map_or}
use Rattle.h26x_fmtp.specs.Units.{pieces_at}
use Rattle.h26x_sdp.specs.LevelSets.{level_in, levels_from, level_sets_in}
use Rattle.h26x_sdp.specs.LevelSetsViews.{level_view, levels_view}
use Rattle.h26x_sdp.proofs.LevelSetsLemmas.{behind_levels, level_more}
use Rattle.h26x_sdp.proofs.level_sets.read_level_sets.Goals as goal

pub loop-rest-preserved : goal.loop-rest-preserved
loop-rest-preserved c =
    let pushed : c.push.new.self.items ≡ c.loop-rest.levels.items ++ c.in_ok-level.level ∷ [] = search rules in
    let len : vec_len c.push.new.self ≡ vec_len c.loop-rest.levels + 1 = search rules in
    let items : levels_view c.push.new.self.items ≡ levels_view c.loop-rest.levels.items ++ level_view c.in_ok-level.level ∷ [] =
    ap levels_view pushed ∙ map-append level_view c.loop-rest.levels.items (c.in_ok-level.level ∷ []) in
    let before = levels_view c.loop-rest.levels.items in
    let place = vec_len c.loop-rest.levels in
    let level = level_view c.in_ok-level.level in
    let id = c.split_piece.result.0.now in
    let sets = c.split_piece-in-Some.result.0.now in
    let more = option_map_or (λ rest. pieces_at 58 rest.now) c.split_piece-in-Some.result.1 [] in
    let some : c.split_piece.result.1 ≡ Some c.in-Some-behind.behind = search rules in
    let given : c.loop-rest.rest ≡ Some c.in-Some.text = search rules in
    let pieces : pieces_at 58 c.in-Some.text.now ≡ id ∷ sets ∷ more =
    c.split_piece.ensures.pieces ∙ ap (λ o. id ∷ option_map_or (λ rest. pieces_at 58 rest.now) o []) some ∙ ap (λ l. id ∷ l) c.split_piece-in-Some.ensures.pieces in
    let read : level_in place id sets ≡ Ok level = search rules in
    let so_far : behind_levels before (levels_from place (pieces_at 58 c.in-Some.text.now)) ≡ level_sets_in c.args.text.now =
    ap (λ o. behind_levels before (levels_from place (option_map_or (λ rest. pieces_at 58 rest.now) o []))) (sym given) ∙ c.loop-rest.invariant in
    ap (λ l. behind_levels l (levels_from (vec_len c.push.new.self) more)) items
    ∙ ap (λ n. behind_levels (before ++ level ∷ []) (levels_from n more)) len
    ∙ level_more before place level id sets (pieces_at 58 c.in-Some.text.now) more (level_sets_in c.args.text.now) pieces read so_far

-- Units of sets of levels, by the views of these.
use Rattle.std.proofs.Common.{◌≡◌, ℕ, cond, List, [], ◌∷◌, Option, Some, None, refl, sym, ap, ◌∙◌}
use Rattle.std.specs.Prelude.{◌==◌, find}
use Rattle.std.specs.List.{slice_get}
use Rattle.std.specs.Option.{option_map, option_and_then}
use Rattle.h26x_fmtp.proofs.PartLemmas.{by_test}
use Rattle.h26x_fmtp.specs.UnitsViews.{units_view}
use Rattle.h26x_sdp.specs.LevelSets as text
use Rattle.h26x_sdp.specs.LevelSetsViews.{level_view, levels_view}
use Rattle.h26x_sdp.specs.declared.level_sets.LevelSets.{LevelSets}
use Rattle.h26x_answers.specs.AnswersH264.{level_of_id}
use Rattle.h26x_sdp_handles.specs.LevelUnits.{unit_of_level}

-- the first sets of a level
first_of_level : (level : ℕ) (levels : List LevelSets) → find (λ (it : text.LevelSets). level_of_id it.profile_level_id == level) (levels_view levels)
    ≡ option_map level_view (find (λ (it : LevelSets). level_of_id it.profile_level_id == level) levels)
first_of_level level [] = refl
first_of_level level (x ∷ rest) =
    let views = find (λ (it : text.LevelSets). level_of_id it.profile_level_id == level) (levels_view rest) in
    let others = find (λ (it : LevelSets). level_of_id it.profile_level_id == level) rest in
    by_test (level_of_id x.profile_level_id == level)
    (λ yes. ap (λ t. cond t (Some (level_view x)) views) yes ∙ sym (ap (λ t. option_map level_view (cond t (Some x) others)) yes))
    (λ no. ap (λ t. cond t (Some (level_view x)) views) no ∙ first_of_level level rest ∙ sym (ap (λ t. option_map level_view (cond t (Some x) others)) no))

-- a unit of them
pub unit_found : (level i : ℕ) (levels : List LevelSets) (found : Option LevelSets) → found ≡ find (λ (it : LevelSets). level_of_id it.profile_level_id == level) levels
    → unit_of_level level i (levels_view levels) ≡ option_and_then (λ (it : LevelSets). slice_get (units_view it.sets.items) i) found
unit_found level i levels None e =
    ap (option_and_then (λ (it : text.LevelSets). slice_get it.sets i)) (first_of_level level levels ∙ ap (option_map level_view) (sym e))
unit_found level i levels (Some it) e =
    ap (option_and_then (λ (x : text.LevelSets). slice_get x.sets i)) (first_of_level level levels ∙ ap (option_map level_view) (sym e))

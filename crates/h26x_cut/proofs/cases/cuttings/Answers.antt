use Rattle.std.proofs.Common.{ℕ, List, [], ◌∷◌, refl}
use Rattle.h26x_cut.specs.declared.ZeroRule.TheVariants.{All, AtMostThree}
use Rattle.h26x_cut.specs.Cutting.{cut_segments}
use Rattle.h26x_cut.proofs.CuttingLemmas.{has_cutting, nothing_held}
use Rattle.h26x_cut.proofs.cases.cuttings.Goals as goal

pub returns-clause-all : goal.returns-clause-all
returns-clause-all c = has_cutting All (0xbb ∷ 0 ∷ 0 ∷ 1 ∷ 0xaa ∷ 0 ∷ 0 ∷ 0 ∷ 1 ∷ 0 ∷ 0 ∷ 1 ∷ 0xcc ∷ 0 ∷ [])

pub returns-clause-at_most_three : goal.returns-clause-at_most_three
returns-clause-at_most_three c = has_cutting AtMostThree (0 ∷ 0 ∷ 1 ∷ 0xaa ∷ 0 ∷ 0 ∷ 0 ∷ 0 ∷ 1 ∷ 0xbb ∷ [])

pub returns-clause-one : goal.returns-clause-one
returns-clause-one c = (refl, nothing_held)

pub returns-clause-units : goal.returns-clause-units
returns-clause-units c =
    let payload : List ℕ = 0xbb ∷ 0 ∷ 0 ∷ 1 ∷ 0xaa ∷ 0 ∷ 0 ∷ 0 ∷ 1 ∷ 0 ∷ 0 ∷ 1 ∷ 0xcc ∷ 0 ∷ [] in
    (cut_segments All payload, has_cutting All payload, refl)

pub returns-clause-place : goal.returns-clause-place
returns-clause-place c = (0xaa ∷ 0 ∷ [], [], refl, refl)

use Rattle.std.proofs.Common.{ℕ, List, [], ◌∷◌, refl}
use Rattle.h26x_cut.specs.declared.ZeroRule.TheVariants.{All}
use Rattle.h26x_cut.specs.Cutting.{cut_segments, units_of}
use Rattle.h26x_cut.proofs.CuttingLemmas.{has_cutting}
use Rattle.h26x_cut.proofs.UnitLemmas.{units_whole}
use Rattle.h26x_cut.proofs.cases.separable_units.Goals as goal

pub returns-clause-units : goal.returns-clause-units
returns-clause-units c =
    let payload : List ℕ = 0 ∷ 0 ∷ 1 ∷ 0xaa ∷ 0 ∷ 0 ∷ 1 ∷ 0 ∷ 0 ∷ [] in
    units_whole All payload (units_of All payload) (cut_segments All payload, has_cutting All payload, refl)

pub returns-clause-all : goal.returns-clause-all
returns-clause-all c =
    let cut = has_cutting All (0xaa ∷ 0 ∷ 0 ∷ 1 ∷ 0 ∷ 0xbb ∷ 0 ∷ 0 ∷ 1 ∷ 0xcc ∷ 0 ∷ 0 ∷ []) in
    (cut.4.0, (cut.5.4.0, tt))

pub returns-clause-not_first : goal.returns-clause-not_first
returns-clause-not_first c = λ fs. fs.0 (0xaa ∷ [], refl)

pub returns-clause-not_second : goal.returns-clause-not_second
returns-clause-not_second c = λ fs. fs.1.0 (0xbb ∷ [], refl)

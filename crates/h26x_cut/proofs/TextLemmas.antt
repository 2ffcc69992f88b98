-- The text of units is cut into these units.
use Rattle.std.proofs.Common.{◌≡◌, ℕ, true, false, List, [], ◌∷◌, ◌++◌, refl, sym, ap, inr, append_assoc}
use Rattle.std.proofs.lemmas.List.{append-nil}
use Rattle.std.specs.List.{AllByRecursion, filter}
use Rattle.h26x_core.specs.ByteStream.{is_not_empty, annex_b}
use Rattle.h26x_cut.specs.declared.ZeroRule.{ZeroRule}
use Rattle.h26x_cut.specs.declared.ZeroRule.TheVariants.{All, AtMostThree}
use Rattle.h26x_cut.specs.Cutting.{IsCutting, IsStartCode, IsUnit, AreSeparable, AreUnits}
use Rattle.h26x_cut.proofs.CuttingLemmas.{nothing_held, nothing_ends}

-- a unit and the text of those after it are cut into these units
unit_and_text : (rule : ZeroRule) (unit : List ℕ) (units : List (List ℕ)) → AllByRecursion IsUnit (unit ∷ units) → AreSeparable rule (unit ∷ units) →
    IsCutting rule (unit ++ annex_b units) (unit ∷ units)
unit_and_text rule unit [] (each, others) apart = (append-nil unit, each.no_code)
unit_and_text All unit (second ∷ units) (each, others) (whole, apart) =
    (0 ∷ 0 ∷ 0 ∷ 1 ∷ [], second ++ annex_b units, simp append_assoc, each.no_code, (whole, 1, refl), unit_and_text All second units others apart)
unit_and_text AtMostThree unit (second ∷ units) (each, others) apart =
    (0 ∷ 0 ∷ 0 ∷ 1 ∷ [], second ++ annex_b units, simp append_assoc, each.no_code, inr refl, unit_and_text AtMostThree second units others tt)

-- a start code of four bytes may stand first
first_code : (rule : ZeroRule) → IsStartCode rule [] (0 ∷ 0 ∷ 0 ∷ 1 ∷ [])
first_code All = (nothing_ends, 1, refl)
first_code AtMostThree = inr refl

-- units are not empty, so none is left out
kept : (units : List (List ℕ)) → AllByRecursion IsUnit units → filter is_not_empty units ≡ units
kept [] each = refl
kept ([] ∷ units) (first, others) = let e : false ≡ true = first.not_empty in absurd cc
kept ((b ∷ unit) ∷ units) (first, others) = ap (λ (us : List (List ℕ)). (b ∷ unit) ∷ us) (kept units others)

-- The units of the text of units are these units.
pub units_of_text : (rule : ZeroRule) (units : List (List ℕ)) → AllByRecursion IsUnit units → AreSeparable rule units →
    AreUnits rule (annex_b units) units
units_of_text rule [] each apart = ([] ∷ [], (refl, nothing_held), refl)
units_of_text rule (unit ∷ units) each apart = (
  [] ∷ unit ∷ units,
  (0 ∷ 0 ∷ 0 ∷ 1 ∷ [], unit ++ annex_b units, simp append_assoc, nothing_held, first_code rule, unit_and_text rule unit units each apart),
  sym (kept (unit ∷ units) each),
)

-- The next access unit of a receiver: the one that had no room, or what is given out.
use Rattle.std.proofs.Common.{◌≡◌, ◌∙◌, refl, sym, ap, subst, ℕ, List, Option, Some, None}
use Rattle.std.specs.Prelude.{MatchOption}
use Rattle.h26x_access_units.specs.ReceivedAccessUnit.{ReceivedAccessUnitValue}
use Rattle.h26x_access_units.specs.Reception.{Reception, IsNext}
use Rattle.h26x_access_units.specs.declared.nacks.Nack.{Nack}
use Rattle.h26x_codec.specs.declared.codec.Codec.{Codec}
use Rattle.h26x_handles.specs.UnitsState.{UnitsState, units_state, unit_without_room, buffer_with_unit, next_answer, IsUnitGiven}
use Rattle.h26x_handles.specs.declared.access_units.NextAnswer.{NextAnswer}

-- its receiver
abbrev reception_of : UnitsState → Reception
reception_of it = it.reception

-- what stands then, by its receiver
stands_by : (codec : Codec) (r : Reception) (left : Option ReceivedAccessUnitValue) (nacks : List Nack) (new : UnitsState) → new ≡ units_state codec r left nacks → new ≡ units_state codec new.reception left nacks
stands_by codec r left nacks new is = is ∙ ap (λ (x : Reception). units_state codec x left nacks) (sym (ap reception_of is))

-- the one that had no room before
pub kept_given : (now : ℕ) (codec : Codec) (r : Reception) (left : Option ReceivedAccessUnitValue) (nacks : List Nack) (new : UnitsState) (kept : ReceivedAccessUnitValue) (to new_to : List ℕ) (answer : NextAnswer) →
    left ≡ Some kept → new ≡ units_state codec r (unit_without_room (Some kept) to) nacks → new_to ≡ buffer_with_unit (Some kept) to → answer ≡ next_answer (Some kept) to →
    IsUnitGiven now (units_state codec r left nacks) new to new_to answer
kept_given now codec r left nacks new kept to new_to answer there after put told = record {
  unit = Some kept;
  is_next = subst (λ (l : Option ReceivedAccessUnitValue). MatchOption l (IsNext now r new.reception (Some kept)) (λ (k : ReceivedAccessUnitValue). (Some kept ≡ Some k) × (new.reception ≡ r)))
      (sym there) (refl, ap reception_of after);
  stands = stands_by codec r (unit_without_room (Some kept) to) nacks new after;
  put = put;
  answered = told;
}

-- what the receiver gives out
pub next_given : (now : ℕ) (codec : Codec) (r next : Reception) (left given : Option ReceivedAccessUnitValue) (nacks : List Nack) (new : UnitsState) (unit : ReceivedAccessUnitValue) (to new_to : List ℕ) (answer : NextAnswer) →
    left ≡ None → IsNext now r next given → given ≡ Some unit → new ≡ units_state codec next (unit_without_room (Some unit) to) nacks →
    new_to ≡ buffer_with_unit (Some unit) to → answer ≡ next_answer (Some unit) to → IsUnitGiven now (units_state codec r left nacks) new to new_to answer
next_given now codec r next left given nacks new unit to new_to answer none is some after put told = record {
  unit = Some unit;
  is_next = subst (λ (l : Option ReceivedAccessUnitValue). MatchOption l (IsNext now r new.reception (Some unit)) (λ (k : ReceivedAccessUnitValue). (Some unit ≡ Some k) × (new.reception ≡ r)))
      (sym none)
      (subst (λ (x : Reception). IsNext now r x (Some unit)) (sym (ap reception_of after))
      (subst (λ (o : Option ReceivedAccessUnitValue). IsNext now r next o) some is));
  stands = stands_by codec next (unit_without_room (Some unit) to) nacks new after;
  put = put;
  answered = told;
}

-- What an answer for the next access unit says, and what stands where nothing is due.
use Rattle.std.proofs.Common.{[], ◌≡◌, ◌∙◌, ◌⊎◌, refl, ap, sym, subst, ℕ, ◌<◌, ◌≤◌, Bool, true, false, if◌then◌else◌, List, ◌++◌, drop, length, Option, Some, None, ⊎_elim, arith}
use Rattle.std.specs.Prelude.{◌&&◌, nat_le, MatchOption}
use Rattle.std.proofs.lemmas.Bool.Decides.{nat_tests}
use Rattle.h26x_access_units.specs.JitterBuffer.{due_packet}
use Rattle.h26x_access_units.specs.ReceivedAccessUnit.{ReceivedAccessUnitValue}
use Rattle.h26x_access_units.specs.Reception.{Reception, has_no_unit, without_bare, without_bare_of, IsDrained, none, bare, more, behind, ended_if_anew, IsDrainedInPart, IsNext}
use Rattle.h26x_handles.specs.UnitsState.{UnitsState, units_state, unit_told, unit_without_room, buffer_with_unit, next_answer, IsNextGiven}
use Rattle.h26x_handles.specs.declared.access_units.NextAnswer.{NextAnswer}
use Rattle.h26x_handles.specs.declared.access_units.NextAnswer.TheVariants as answers
use Rattle.h26x_handles.specs.declared.access_units.UnitTold.{UnitTold}

-- the answer for an access unit, by whether it fits
abbrev answer_of : Bool → ReceivedAccessUnitValue → NextAnswer
answer_of fits unit = if fits then answers.Written (unit_told unit) else answers.NoRoom (unit_told unit)

fits_there : (fits : Bool) (unit : ReceivedAccessUnitValue) (told : UnitTold) → answers.Written told ≡ answer_of fits unit → (fits ≡ true) × (told ≡ unit_told unit)
fits_there true unit told is = let same : answers.Written told ≡ answers.Written (unit_told unit) = is in (refl, cc)
fits_there false unit told is = absurd (let bad : answers.Written told ≡ answers.NoRoom (unit_told unit) = is in cc)

lacks_there : (fits : Bool) (unit : ReceivedAccessUnitValue) (told : UnitTold) → answers.NoRoom told ≡ answer_of fits unit → (fits ≡ false) × (told ≡ unit_told unit)
lacks_there true unit told is = absurd (let bad : answers.NoRoom told ≡ answers.Written (unit_told unit) = is in cc)
lacks_there false unit told is = let same : answers.NoRoom told ≡ answers.NoRoom (unit_told unit) = is in (refl, cc)

is_there : (fits : Bool) (unit : ReceivedAccessUnitValue) → answers.NothingYet ≡ answer_of fits unit → ⊥
is_there true unit is = let bad : answers.NothingYet ≡ answers.Written (unit_told unit) = is in cc
is_there false unit is = let bad : answers.NothingYet ≡ answers.NoRoom (unit_told unit) = is in cc

-- of one that was written
pub written_of : (now : ℕ) (it new : UnitsState) (to new_to : List ℕ) (told : UnitTold) (unit : Option ReceivedAccessUnitValue) → IsNextGiven now it new.reception unit →
    new ≡ units_state it.codec new.reception (unit_without_room unit to) it.nacks → new_to ≡ buffer_with_unit unit to → answers.Written told ≡ next_answer unit to →
    (u : ReceivedAccessUnitValue) × IsNextGiven now it new.reception (Some u) × (told ≡ unit_told u) × (length u.bytes ≤ length to) × (new_to ≡ u.bytes ++ drop (length u.bytes) to) × (new ≡ units_state it.codec new.reception None it.nacks)
written_of now it new to new_to told None next stands put is = absurd (let bad : answers.Written told ≡ answers.NothingYet = is in cc)
written_of now it new to new_to told (Some u) next stands put is =
    let (fits, same) = fits_there (nat_le (length u.bytes) (length to)) u told is in (
      u,
      next,
      same,
      grind (arith, nat_tests),
      put ∙ ap (λ (f : Bool). if f then u.bytes ++ drop (length u.bytes) to else to) fits,
      stands ∙ ap (λ (f : Bool). units_state it.codec new.reception (if f then None else Some u) it.nacks) fits,
    )

-- of one that had no room
pub left_of : (now : ℕ) (it new : UnitsState) (to new_to : List ℕ) (told : UnitTold) (unit : Option ReceivedAccessUnitValue) → IsNextGiven now it new.reception unit →
    new ≡ units_state it.codec new.reception (unit_without_room unit to) it.nacks → new_to ≡ buffer_with_unit unit to → answers.NoRoom told ≡ next_answer unit to →
    (u : ReceivedAccessUnitValue) × IsNextGiven now it new.reception (Some u) × (told ≡ unit_told u) × (length to < length u.bytes) × (new_to ≡ to) × (new ≡ units_state it.codec new.reception (Some u) it.nacks)
left_of now it new to new_to told None next stands put is = absurd (let bad : answers.NoRoom told ≡ answers.NothingYet = is in cc)
left_of now it new to new_to told (Some u) next stands put is =
    let (lacks, same) = lacks_there (nat_le (length u.bytes) (length to)) u told is in (
      u,
      next,
      same,
      grind (arith, nat_tests),
      put ∙ ap (λ (f : Bool). if f then u.bytes ++ drop (length u.bytes) to else to) lacks,
      stands ∙ ap (λ (f : Bool). units_state it.codec new.reception (if f then None else Some u) it.nacks) lacks,
    )

-- of none
pub none_of : (now : ℕ) (it new : UnitsState) (to new_to : List ℕ) (unit : Option ReceivedAccessUnitValue) → IsNextGiven now it new.reception unit →
    new ≡ units_state it.codec new.reception (unit_without_room unit to) it.nacks → new_to ≡ buffer_with_unit unit to → answers.NothingYet ≡ next_answer unit to →
    IsNextGiven now it new.reception None × (new_to ≡ to) × (new ≡ units_state it.codec new.reception None it.nacks)
none_of now it new to new_to None next stands put is = (next, put, stands)
none_of now it new to new_to (Some u) next stands put is = absurd (is_there (nat_le (length u.bytes) (length to)) u is)

-- the same by either
pub either_none : {A : Type 0} (b : Bool) (x y : Option A) → x ≡ None → y ≡ None → (if b then x else y) ≡ None
either_none true x y first second = first
either_none false x y first second = second

-- where no packet is due none was taken
none_taken : (now : ℕ) (s t : Reception) → IsDrained now s t → s.assembler.ended ≡ [] → due_packet now s.waiting ≡ None → t ≡ s
none_taken now s t none left idle = refl
none_taken now s u (bare {t} before) left idle = ap without_bare (none_taken now s t before left idle) ∙ ap (without_bare_of s) left
none_taken now s u (more {t} before empty taken) left idle =
    absurd (let due : due_packet now t.waiting ≡ Some taken.packet = taken.due in
    let same : due_packet now t.waiting ≡ None = ap (λ (r : Reception). due_packet now r.waiting) (none_taken now s t before left idle) ∙ idle in cc)
none_taken now s u (behind {t} before empty ended) left idle =
    absurd (let due : due_packet now t.waiting ≡ Some ended.packet = ended.due in
    let same : due_packet now t.waiting ≡ None = ap (λ (r : Reception). due_packet now r.waiting) (none_taken now s t before left idle) ∙ idle in cc)

-- a stream that hasn't begun anew
not_both : (b c : Bool) (r s : Reception) → c ≡ false → (if b && c then r else s) ≡ s
not_both true c r s is = ap (λ (x : Bool). if x then r else s) is
not_both false c r s is = refl

pub not_changed : (now : ℕ) (it new : UnitsState) → new ≡ units_state it.codec new.reception it.left it.nacks → IsDrainedInPart now it.reception new.reception →
    it.reception.assembler.ended ≡ [] → it.reception.is_anew ≡ false → due_packet now it.reception.waiting ≡ None → new ≡ it
not_changed now it new stands taken left begun idle =
    let whole : without_bare it.reception ≡ it.reception = ap (without_bare_of it.reception) left in
    let same : ended_if_anew (without_bare it.reception) ≡ it.reception = ap ended_if_anew whole ∙ not_both (has_no_unit it.reception.assembler.ended) it.reception.is_anew _ it.reception begun in
    let left_too = ap (λ (r : Reception). r.assembler.ended) same ∙ left in
    let idle_too : due_packet now (ended_if_anew (without_bare it.reception)).waiting ≡ None = ap (λ (r : Reception). due_packet now r.waiting) same ∙ idle in
    let stays : new.reception ≡ it.reception = ⊎_elim (λ e. e ∙ whole) (λ drained. none_taken now (ended_if_anew (without_bare it.reception)) new.reception drained left_too idle_too ∙ same) taken in
    stands ∙ ap (λ (r : Reception). units_state it.codec r it.left it.nacks) stays

-- where no access unit waits for room, the next one is the receiver's
pub next_of : (now : ℕ) (it : UnitsState) (new : Reception) (unit : Option ReceivedAccessUnitValue) → it.left ≡ None → IsNextGiven now it new unit → IsNext now it.reception new unit
next_of now it new unit left next = subst (λ (l : Option ReceivedAccessUnitValue). MatchOption l (IsNext now it.reception new unit) (λ (k : ReceivedAccessUnitValue). (unit ≡ Some k) × (new ≡ it.reception))) left next

pub given_of : (now : ℕ) (it : UnitsState) (new : Reception) (unit : Option ReceivedAccessUnitValue) → it.left ≡ None → IsNext now it.reception new unit → IsNextGiven now it new unit
given_of now it new unit left next = subst (λ (l : Option ReceivedAccessUnitValue). MatchOption l (IsNext now it.reception new unit) (λ (k : ReceivedAccessUnitValue). (unit ≡ Some k) × (new ≡ it.reception))) (sym left) next

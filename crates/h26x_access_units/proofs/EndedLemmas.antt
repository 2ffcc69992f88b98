-- Access units that have ended and weren't given out, each with its numbers.
use Rattle.std.proofs.Common.{◌≡◌, sym, subst, refl, Bool, List, [], ◌∷◌, ◌++◌, Option, Some, None}
use Rattle.h26x_assembler.specs.AccessUnit.{AccessUnitValue, whole_if, given_out}
use Rattle.h26x_access_units.specs.declared.numbers.AccessUnitNumbers.{AccessUnitNumbers}
use Rattle.h26x_access_units.specs.Numbers.{first_of_ended}

-- the access unit that is open and its numbers go together
abbrev pub SameStamp : Option AccessUnitValue → Option AccessUnitNumbers → Type 0
SameStamp None None = Unit {0}
SameStamp (Some u) (Some k) = u.timestamp ≡ k.timestamp
SameStamp None (Some k) = ⊥
SameStamp (Some u) None = ⊥

-- so it is of each of them
module _ (One : AccessUnitValue → AccessUnitNumbers → Type 0) where
  abbrev pub EndedAre : List AccessUnitValue → Option AccessUnitNumbers → Option AccessUnitNumbers → Type 0
  EndedAre [] e b = (e ≡ None) × (b ≡ None)
  EndedAre (u ∷ units) (Some k) b = One u k × EndedAre units None b
  EndedAre (u ∷ units) None (Some k) = One u k × EndedAre units None None
  EndedAre (u ∷ units) None None = ⊥

  -- what is open ends
  pub open_ended : (holds : Bool) (u : Option AccessUnitValue) (k : Option AccessUnitNumbers) → SameStamp u k →
      ((unit : AccessUnitValue) (numbers : AccessUnitNumbers) → u ≡ Some unit → k ≡ Some numbers → One (whole_if holds unit) numbers) → EndedAre (given_out holds u) k None
  open_ended holds None None same each = (refl, refl)
  open_ended holds None (Some k) same each = absurd same
  open_ended holds (Some u) None same each = absurd same
  open_ended holds (Some u) (Some k) same each = (each u k refl refl, (refl, refl))

  pub ended_more : (units : List AccessUnitValue) (e b : Option AccessUnitNumbers) (more_units : List AccessUnitValue) → EndedAre units e None → EndedAre more_units None b → EndedAre (units ++ more_units) e b
  ended_more [] e b more_units is others = subst (λ (x : Option AccessUnitNumbers). EndedAre more_units x b) (sym is.0) others
  ended_more (u ∷ []) (Some k) b more_units is others = (is.0, others)
  ended_more (u ∷ v ∷ units) (Some k) b more_units is others = absurd is.1
  ended_more (u ∷ units) None b more_units is others = absurd is

  -- where none is left
  pub none_ended : (units : List AccessUnitValue) (e b : Option AccessUnitNumbers) → units ≡ [] → EndedAre units e b → (e ≡ None) × (b ≡ None)
  none_ended units e b empty is = subst (λ (x : List AccessUnitValue). EndedAre x e b) empty is

  -- so it is of the first
  pub first_one : (u : AccessUnitValue) (units : List AccessUnitValue) (e b : Option AccessUnitNumbers) → EndedAre (u ∷ units) e b → One u (first_of_ended e b)
  first_one u units (Some k) b is = is.0
  first_one u units None (Some k) is = is.0
  first_one u units None None is = absurd is

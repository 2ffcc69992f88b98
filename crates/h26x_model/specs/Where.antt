-- Words for what holds of a state, where there is one.
use Rattle.std.specs.Prelude.{◌≡◌, Option, Some}

-- what holds of what is there, if anything is
abbrev pub Where : {A : Type 0} → Option A → (A → Type 0) → Type 0
Where {A} it P = (a : A) → it ≡ Some a → P a

-- what holds of what is there of two, where both are
abbrev pub WhereBoth : {A B : Type 0} → Option A → Option B → (A → B → Type 0) → Type 0
WhereBoth {A} {B} it other P = (a : A) (b : B) → it ≡ Some a → other ≡ Some b → P a b

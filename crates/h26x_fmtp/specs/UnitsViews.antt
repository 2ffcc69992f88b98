-- What units of the code say.
use Rattle.std.specs.Prelude.{◌≡◌, ℕ, List, map, Option, Some, None, Result, Ok, Err, Vec, MatchResult}
use Rattle.std.specs.declared.alloc.Global.{Global}
use Rattle.h26x_fmtp.specs.declared.error.UnitsError.{UnitsError}
use Rattle.h26x_fmtp.specs.declared.error.UnitsError.TheVariants.{NotBase64, Empty, OtherType, StartCode, OutOfMemory}

abbrev pub units_view : List (Vec ℕ Global) → List (List ℕ)
units_view units = map (λ unit. unit.items) units

-- an error is that of the definition, or want of memory
abbrev pub FailsUnits : {T : Type 0} → UnitsError → Result T UnitsError → Type 0
FailsUnits OutOfMemory read = Unit {0}
FailsUnits (NotBase64 place) read = read ≡ Err (NotBase64 place)
FailsUnits (Empty place) read = read ≡ Err (Empty place)
FailsUnits (OtherType place) read = read ≡ Err (OtherType place)
FailsUnits (StartCode place) read = read ≡ Err (StartCode place)

-- what a call answers is what the definition gives
abbrev pub SaysUnit : Result (Vec ℕ Global) UnitsError → Result (List ℕ) UnitsError → Type 0
SaysUnit (Ok unit) read = read ≡ Ok unit.items
SaysUnit (Err error) read = FailsUnits error read

-- the same of units
abbrev pub SaysUnits : Result (Vec (Vec ℕ Global) Global) UnitsError →
    Result (List (List ℕ)) UnitsError → Type 0
SaysUnits result read =
    MatchResult result (λ it. read ≡ Ok (units_view it.items)) (λ error. FailsUnits error read)

-- the same of units that may be absent
abbrev pub SaysUnitsIfGiven : Result (Option (Vec (Vec ℕ Global) Global)) UnitsError →
    Option (Result (List (List ℕ)) UnitsError) → Type 0
SaysUnitsIfGiven (Ok None) read = read ≡ None
SaysUnitsIfGiven (Ok (Some units)) read = read ≡ Some (Ok (units_view units.items))
SaysUnitsIfGiven (Err OutOfMemory) read = Unit {0}
SaysUnitsIfGiven (Err (NotBase64 place)) read = read ≡ Some (Err (NotBase64 place))
SaysUnitsIfGiven (Err (Empty place)) read = read ≡ Some (Err (Empty place))
SaysUnitsIfGiven (Err (OtherType place)) read = read ≡ Some (Err (OtherType place))
SaysUnitsIfGiven (Err (StartCode place)) read = read ≡ Some (Err (StartCode place))

-- What the calls on capability points say.
use Rattle.std.specs.Prelude.{◌≡◌, List, Option, Some, None, Result, Ok, Err, Vec}
use Rattle.std.specs.declared.alloc.Global.{Global}
use Rattle.h26x_sdp.specs.declared.error.CapabilityPointsError.{CapabilityPointsError}
use Rattle.h26x_sdp.specs.declared.error.CapabilityPointsError.TheVariants.{NoBraces, NoTool, Segmentation, Limits, NoLimit, OutOfMemory}
use Rattle.h26x_sdp.specs.declared.capability_points.CapabilityPoint.{CapabilityPoint}

-- an error is that of the definition, or want of memory
abbrev pub FailsPoints : {T : Type 0} → CapabilityPointsError → Result T CapabilityPointsError →
    Type 0
FailsPoints OutOfMemory read = Unit {0}
FailsPoints NoBraces read = read ≡ Err NoBraces
FailsPoints (NoTool place) read = read ≡ Err (NoTool place)
FailsPoints (Segmentation place fault) read = read ≡ Err (Segmentation place fault)
FailsPoints (Limits place fault) read = read ≡ Err (Limits place fault)
FailsPoints (NoLimit place) read = read ≡ Err (NoLimit place)

-- what a call answers is what the definition gives
abbrev pub SaysPoint : Result CapabilityPoint CapabilityPointsError →
    Result CapabilityPoint CapabilityPointsError → Type 0
SaysPoint (Ok point) read = read ≡ Ok point
SaysPoint (Err error) read = FailsPoints error read

abbrev pub SaysPoints : Result (Vec CapabilityPoint Global) CapabilityPointsError →
    Result (List CapabilityPoint) CapabilityPointsError → Type 0
SaysPoints (Ok points) read = read ≡ Ok points.items
SaysPoints (Err error) read = FailsPoints error read

-- the same of points that may be absent
abbrev pub SaysPointsIfGiven : Result (Option (Vec CapabilityPoint Global)) CapabilityPointsError →
    Option (Result (List CapabilityPoint) CapabilityPointsError) → Type 0
SaysPointsIfGiven (Ok None) read = read ≡ None
SaysPointsIfGiven (Ok (Some points)) read = read ≡ Some (Ok points.items)
SaysPointsIfGiven (Err OutOfMemory) read = Unit {0}
SaysPointsIfGiven (Err NoBraces) read = read ≡ Some (Err NoBraces)
SaysPointsIfGiven (Err (NoTool place)) read = read ≡ Some (Err (NoTool place))
SaysPointsIfGiven (Err (Segmentation place fault)) read =
    read ≡ Some (Err (Segmentation place fault))
SaysPointsIfGiven (Err (Limits place fault)) read = read ≡ Some (Err (Limits place fault))
SaysPointsIfGiven (Err (NoLimit place)) read = read ≡ Some (Err (NoLimit place))

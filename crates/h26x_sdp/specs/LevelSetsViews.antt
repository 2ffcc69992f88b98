-- What the calls on parameter sets of levels say.
use Rattle.std.specs.Prelude.{◌≡◌, List, map, Option, Some, None, Result, Ok, Err, Vec}
use Rattle.std.specs.declared.alloc.Global.{Global}
use Rattle.h26x_sdp.specs.declared.error.LevelSetsError.{LevelSetsError}
use Rattle.h26x_sdp.specs.declared.error.LevelSetsError.TheVariants.{NotHexadecimal, NoSets, Sets, OutOfMemory}
use Rattle.h26x_sdp.specs.declared.level_sets.LevelSets.{LevelSets}
use Rattle.h26x_sdp.specs.LevelSets as text
use Rattle.h26x_fmtp.specs.UnitsViews.{units_view}

abbrev pub level_view : LevelSets → text.LevelSets
level_view it = record { profile_level_id = it.profile_level_id; sets = units_view it.sets.items }

abbrev pub levels_view : List LevelSets → List text.LevelSets
levels_view levels = map level_view levels

-- an error is that of the definition, or want of memory
abbrev pub FailsLevels : {T : Type 0} → LevelSetsError → Result T LevelSetsError → Type 0
FailsLevels OutOfMemory read = Unit {0}
FailsLevels (NotHexadecimal place) read = read ≡ Err (NotHexadecimal place)
FailsLevels (NoSets place) read = read ≡ Err (NoSets place)
FailsLevels (Sets place error) read = read ≡ Err (Sets place error)

-- what a call answers is what the definition gives
abbrev pub SaysLevel : Result LevelSets LevelSetsError → Result text.LevelSets LevelSetsError → Type 0
SaysLevel (Ok level) read = read ≡ Ok (level_view level)
SaysLevel (Err error) read = FailsLevels error read

abbrev pub SaysLevels : Result (Vec LevelSets Global) LevelSetsError →
    Result (List text.LevelSets) LevelSetsError → Type 0
SaysLevels (Ok levels) read = read ≡ Ok (levels_view levels.items)
SaysLevels (Err error) read = FailsLevels error read

-- the same of levels that may be absent
abbrev pub SaysLevelsIfGiven : Result (Option (Vec LevelSets Global)) LevelSetsError →
    Option (Result (List text.LevelSets) LevelSetsError) → Type 0
SaysLevelsIfGiven (Ok None) read = read ≡ None
SaysLevelsIfGiven (Ok (Some levels)) read = read ≡ Some (Ok (levels_view levels.items))
SaysLevelsIfGiven (Err OutOfMemory) read = Unit {0}
SaysLevelsIfGiven (Err (NotHexadecimal place)) read = read ≡ Some (Err (NotHexadecimal place))
SaysLevelsIfGiven (Err (NoSets place)) read = read ≡ Some (Err (NoSets place))
SaysLevelsIfGiven (Err (Sets place error)) read = read ≡ Some (Err (Sets place error))

-- The units of parameters as they are kept.
use Rattle.std.specs.Prelude.{ℕ, List, Option, Some, None, Result, Ok, Err, Vec}
use Rattle.std.specs.declared.alloc.Global.{Global}
use Rattle.h26x_fmtp.specs.declared.error.UnitsError.{UnitsError}
use Rattle.h26x_fmtp.specs.UnitsViews.{units_view}

abbrev pub kept_view : Option (Result (Vec (Vec ℕ Global) Global) UnitsError) →
    Option (Result (List (List ℕ)) UnitsError)
kept_view None = None
kept_view (Some (Ok units)) = Some (Ok (units_view units.items))
kept_view (Some (Err error)) = Some (Err error)

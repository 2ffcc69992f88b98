-- What parameters of the code say.
use Rattle.std.specs.Prelude.{◌≡◌, ℕ, List, map, Option, Some, None, Result, Ok, Err, Vec, MatchOption, MatchResult}
use Rattle.std.specs.Option.{option_map}
use Rattle.std.specs.Borrow.{Bor}
use Rattle.std.specs.declared.alloc.Global.{Global}
use Rattle.h26x_fmtp.specs.Pairs.{Pair}
use Rattle.h26x_fmtp.specs.Reading as text
use Rattle.h26x_fmtp.specs.declared.parameters.OtherParameter.{OtherParameter}
use Rattle.h26x_fmtp.specs.declared.parameters.FormatParameters.{FormatParameters}
use Rattle.h26x_fmtp.specs.declared.error.ParametersError.{ParametersError}
use Rattle.h26x_fmtp.specs.declared.error.ParametersError.TheVariants.{OpenBrace, Refused, OutOfMemory}

abbrev pub value_view : Option (Vec ℕ Global) → Option (List ℕ)
value_view value = option_map (λ v. v.items) value

-- the same of a value that is borrowed
abbrev pub slice_view : Option (Bor (List ℕ)) → Option (List ℕ)
slice_view value = option_map (λ v. v.now) value

abbrev pub values_view : Vec (Option (Vec ℕ Global)) Global → List (Option (List ℕ))
values_view values = map value_view values.items

abbrev pub other_view : OtherParameter → Pair
other_view other = record { name = other.name.items; value = other.value.items }

abbrev pub others_view : Vec OtherParameter Global → List Pair
others_view others = map other_view others.items

abbrev pub view : FormatParameters → text.FormatParameters
view it = record { values = values_view it.values; others = others_view it.others }

-- an error is that of the definition, or want of memory
abbrev pub Fails : ParametersError → Result text.FormatParameters ParametersError → Type 0
Fails OutOfMemory read = Unit {0}
Fails OpenBrace read = read ≡ Err OpenBrace
Fails (Refused place fault) read = read ≡ Err (Refused place fault)

-- what a call answers is what the definition gives
abbrev pub Gives : Result FormatParameters ParametersError →
    Result text.FormatParameters ParametersError → Type 0
Gives (Ok it) read = read ≡ Ok (view it)
Gives (Err error) read = Fails error read

-- the same of a call that changes parameters where they stand
abbrev pub GivesInPlace : {T : Type 0} → Result T ParametersError → FormatParameters →
    Result text.FormatParameters ParametersError → Type 0
GivesInPlace result new read =
    MatchResult result (λ _. read ≡ Ok (view new)) (λ error. Fails error read)

-- the value that a call answers is that of the definition, or both are absent
abbrev pub SaysValue : Option (Bor (List ℕ)) → Option (List ℕ) → Type 0
SaysValue result value = MatchOption result (value ≡ None) (λ it. value ≡ Some it.now)

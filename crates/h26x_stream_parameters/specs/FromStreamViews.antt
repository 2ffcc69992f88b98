-- What the calls that look into a stream say.
use Rattle.std.specs.Prelude.{◌≡◌, ℕ, List, map, Result, Ok, Err, Vec, MatchResult}
use Rattle.std.specs.Borrow.{Bor}
use Rattle.std.specs.declared.alloc.Global.{Global}
use Rattle.h26x_stream_parameters.specs.declared.error.StreamError.{StreamError}
use Rattle.h26x_stream_parameters.specs.declared.error.StreamError.TheVariants.{NoParameterSet, ShortParameterSet, NoProfile, OutOfMemory}

abbrev pub slices_view : List (Bor (List ℕ)) → List (List ℕ)
slices_view units = map (λ unit. unit.now) units

-- an error is that of the definition, or want of memory
abbrev pub FailsStream : {T : Type 0} → StreamError → Result T StreamError → Type 0
FailsStream OutOfMemory read = Unit {0}
FailsStream NoParameterSet read = read ≡ Err NoParameterSet
FailsStream ShortParameterSet read = read ≡ Err ShortParameterSet
FailsStream NoProfile read = read ≡ Err NoProfile

-- what a call answers of a stream is what the definition gives
abbrev pub SaysOfStream : {T : Type 0} → Result T StreamError → Result T StreamError → Type 0
SaysOfStream result read = MatchResult result (λ it. read ≡ Ok it) (λ error. FailsStream error read)

-- the same of bytes of a parameter set
abbrev pub SaysOfSet : Result (Vec ℕ Global) StreamError → Result (List ℕ) StreamError → Type 0
SaysOfSet result read =
    MatchResult result (λ bytes. read ≡ Ok bytes.items) (λ error. FailsStream error read)

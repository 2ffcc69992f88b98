-- What the calls on constraints of H.266 say.
use Rattle.std.specs.Prelude.{◌≡◌, List, ℕ, Result, Ok, Err, MatchResult}
use Rattle.h26x_sdp.specs.declared.error.ConstraintsError.{ConstraintsError}
use Rattle.h26x_sdp.specs.declared.error.ConstraintsError.TheVariants.{NotBase64, Short, Long, OutOfMemory}

-- an error is that of the definition, or want of memory
abbrev pub FailsConstraints : ConstraintsError → Result (List ℕ) ConstraintsError → Type 0
FailsConstraints OutOfMemory read = Unit {0}
FailsConstraints NotBase64 read = read ≡ Err NotBase64
FailsConstraints Short read = read ≡ Err Short
FailsConstraints Long read = read ≡ Err Long

-- what a call answers is what the definition gives
abbrev pub SaysConstraints : Result (List ℕ) ConstraintsError →
    Result (List ℕ) ConstraintsError → Type 0
SaysConstraints result read =
    MatchResult result (λ it. read ≡ Ok it) (λ error. FailsConstraints error read)

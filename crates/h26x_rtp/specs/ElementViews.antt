-- What an element of the code says.
use Rattle.std.specs.Prelude.{◌≡◌, ◌≤◌, ◌+◌, ℕ, List, length, Option, Result, Ok, Err, IfOk, IfSome}
use Rattle.std.specs.Option.{option_map}
use Rattle.h26x_rtp.specs.declared.elements.PlacedElement.{PlacedElement}
use Rattle.h26x_rtp.specs.declared.elements.RtpElement.{RtpElement}
use Rattle.h26x_rtp.specs.declared.elements.RtpElementError.{RtpElementError}
use Rattle.h26x_rtp.specs.Elements.{ElementParts, PlacedParts, PlacedAnswer}

abbrev pub element_view : RtpElement → ElementParts
element_view it = record { id = it.id; bytes = it.bytes.now }

abbrev pub placed_view : PlacedElement → PlacedParts
placed_view it = record { place = it.place; parts = element_view it.element }

-- what a call answered is what is read
abbrev pub IsPlaced : Result (Option PlacedElement) RtpElementError → PlacedAnswer → Type 0
IsPlaced (Ok it) read = read ≡ Ok (option_map placed_view it)
IsPlaced (Err e) read = read ≡ Err e

-- an element that is told is all in these bytes
abbrev pub IsWithin : Result (Option PlacedElement) RtpElementError → List ℕ → Type 0
IsWithin answer bytes =
    IfOk answer (λ found. IfSome found (λ it. it.place + length it.element.bytes.now ≤ length bytes))

-- What frame numbers tell of pictures that a sender of H.264 sends and that are lost, by the whole list
-- of them (Recommendation H.264, 7.4.3), where it sends frames alone and leaves out no number.
use Rattle.std.specs.Prelude.{◌≡◌, ◌⊎◌, ◌≤◌, ◌<◌, ℕ, ◌+◌, ◌%◌, Bool, true, false, if◌then◌else◌, List, [], ◌∷◌}
use Rattle.std.specs.List.{AllByRecursion}
use Rattle.h26x_access_units.specs.FrameNumber.{tells_no_loss}

-- a picture that was sent: whether others may refer to it; whether numbers begin anew behind it, as
-- behind an IDR picture and one of memory_management_control_operation 5; and how many packets of it
-- are missing
pub record SentPicture : Type 0 where
  pub is_reference : Bool
  pub is_reset : Bool
  pub missing : ℕ

-- PrevRefFrameNum behind a picture, by that before it: its own number where it is a reference picture,
-- which is the one behind that before it
abbrev pub number_behind : ℕ → ℕ → SentPicture → ℕ
number_behind most before it =
    if it.is_reset then 0 else (if it.is_reference then (before + 1) % most else before)

-- behind all of these, in decoding order
abbrev pub number_behind_all : ℕ → ℕ → List SentPicture → ℕ
number_behind_all most before [] = before
number_behind_all most before (it ∷ later) =
    number_behind_all most (number_behind most before it) later

-- whether nothing that follows refers to a picture, nor counts from it
abbrev pub IsUnreferenced : SentPicture → Type 0
IsUnreferenced it = (it.is_reset ≡ false) × (it.is_reference ≡ false)

-- a picture that isn't whole, if others refer to it: packets of it are missing, and where numbers begin
-- anew behind it at least so many
pub record MayBeLost (key : ℕ) (it : SentPicture) : Type 0 where
  pub lost : (1 ≤ it.missing) ⊎ IsUnreferenced it
  pub long : it.is_reset ≡ true → key ≤ it.missing

-- how many packets of these are missing
abbrev pub packets_missing : List SentPicture → ℕ
packets_missing [] = 0
packets_missing (it ∷ later) = it.missing + packets_missing later

-- Where the last reference picture that came has a number, and so many packets are missing since, of
-- these pictures; and where by its number a picture behind them that is no IDR picture tells so: then
-- none of them is a reference picture.
abbrev pub IsToldWithoutLoss : ℕ → ℕ → ℕ → ℕ → List SentPicture → Type 0
IsToldWithoutLoss most key last missing pictures =
    1 ≤ key → last < most → AllByRecursion (MayBeLost key) pictures →
    packets_missing pictures ≤ missing →
    tells_no_loss most key last missing ((number_behind_all most last pictures + 1) % most) ≡ true →
    AllByRecursion IsUnreferenced pictures

-- The elements of a header extension (RFC 8285).
use Rattle.std.specs.Prelude.{◌≡◌, ℕ, zero, suc, ◌+◌, ◌-◌, ◌*◌, ◌/◌, ◌%◌, ◌<◌, ◌≤◌, ◌==◌, nat_lt, Bool, ◌||◌, if◌then◌else◌, List, [], ◌∷◌, length, take, drop, slice_index, Option, Some, None, Result, Ok, Err}
use Rattle.h26x_rtp.specs.declared.elements.ElementForm.{ElementForm}
use Rattle.h26x_rtp.specs.declared.elements.ElementForm.TheVariants.{OneByte, TwoBytes}
use Rattle.h26x_rtp.specs.declared.elements.RtpElementError.{RtpElementError}
use Rattle.h26x_rtp.specs.declared.elements.RtpElementError.TheVariants.{PastTheEnd}
use Rattle.h26x_rtp.specs.Datagram.{ExtensionParts}

-- an element: its local identifier and its bytes (RFC 8285, 4.1)
pub record ElementParts : Type 0 where
  pub id : ℕ
  pub bytes : List ℕ

-- an element behind its header: four bits of id and four of the length less 1, or a byte of each
-- (RFC 8285, 4.2 and 4.3)
abbrev pub element_bytes : ElementForm → ElementParts → List ℕ
element_bytes OneByte it = (it.id * 16 + (length it.bytes - 1)) ∷ it.bytes
element_bytes TwoBytes it = it.id ∷ length it.bytes ∷ it.bytes

-- what has a place in an element; 0 is padding, and 15 is no id in the form of one byte (RFC 8285,
-- 4.2 and 4.3)
abbrev pub ElementFits : ElementForm → ElementParts → Type 0
ElementFits OneByte it = (0 < it.id) × (it.id < 15) × (0 < length it.bytes) × (length it.bytes ≤ 16)
ElementFits TwoBytes it = (0 < it.id) × (it.id < 256) × (length it.bytes < 256)

-- how many bytes stand behind the first byte of an element; of a byte 0, padding, none (RFC 8285,
-- 4.1.2)
abbrev pub size_behind : ElementForm → ℕ → List ℕ → ℕ
size_behind OneByte byte bytes = if byte == 0 then 0 else byte % 16 + 1
size_behind TwoBytes byte bytes = if byte == 0 then 0 else slice_index bytes 0 + 1

-- whether a first byte ends the elements in the form of one byte: by an id of 15, or of 0 where it is
-- no padding (RFC 8285, 4.2)
abbrev pub ends_short : ℕ → Bool
ends_short byte = (byte / 16 == 0) || (byte / 16 == 15)

-- whether no further element is read: in the form of one byte from id 15 or 0 on, and where one
-- passes the end (RFC 8285, 4.2)
abbrev pub ends_elements : ElementForm → ℕ → List ℕ → Bool
ends_elements OneByte byte bytes = ends_short byte || nat_lt (length bytes) (byte % 16 + 1)
ends_elements TwoBytes byte bytes = nat_lt (length bytes) (slice_index bytes 0 + 1)

-- the element of a first byte
abbrev pub element_at : ElementForm → ℕ → List ℕ → ElementParts
element_at OneByte byte bytes = record { id = byte / 16; bytes = take (byte % 16 + 1) bytes }
element_at TwoBytes byte bytes = record {
  id = byte;
  bytes = take (slice_index bytes 0) (drop 1 bytes);
}

-- the elements of bytes, by the first byte and those behind it
abbrev pub with_element : ElementForm → ℕ → List ℕ → List ElementParts → List ElementParts
with_element form byte bytes behind =
    if byte == 0 then behind
    else if ends_elements form byte bytes then []
    else element_at form byte bytes ∷ behind

-- the elements behind so many bytes, which belong to the one before
abbrev pub elements_behind : ElementForm → ℕ → List ℕ → List ElementParts
elements_behind form size [] = []
elements_behind form (suc size) (byte ∷ bytes) = elements_behind form size bytes
elements_behind form zero (byte ∷ bytes) =
    with_element form byte bytes (elements_behind form (size_behind form byte bytes) bytes)

-- all elements
abbrev pub elements_in : ElementForm → List ℕ → List ElementParts
elements_in form bytes = elements_behind form 0 bytes

-- the form that a profile says: BEDE, or 100 and four bits of any value (RFC 8285, 4.2 and 4.3)
abbrev pub form_of : ℕ → Option ElementForm
form_of profile =
    if profile == 0xbede then Some OneByte
    else if profile / 16 == 0x100 then Some TwoBytes
    else None

-- the elements of an extension; of another profile there are none
abbrev pub elements_by : Option ElementForm → List ℕ → List ElementParts
elements_by (Some form) bytes = elements_in form bytes
elements_by None bytes = []

abbrev pub extension_elements : ExtensionParts → List ElementParts
extension_elements it = elements_by (form_of it.profile) it.bytes

-- an element and the place at which its bytes begin
pub record PlacedParts : Type 0 where
  pub place : ℕ
  pub parts : ElementParts

-- It is the first of the elements of bytes that begin at a place: its bytes stand where it says, and
-- behind them the others.
pub record IsFirstPlaced (form : ElementForm) (place : ℕ) (bytes : List ℕ) (it : PlacedParts) : Type
    0 where
  pub behind : place ≤ it.place
  pub there : take (length it.parts.bytes) (drop (it.place - place) bytes) ≡ it.parts.bytes
  pub first : elements_in form bytes
      ≡ it.parts ∷ elements_in form (drop (it.place + length it.parts.bytes - place) bytes)

-- What one element answers: there is none behind the last, and one may pass the end.
abbrev pub PlacedAnswer : Type 0
PlacedAnswer = Result (Option PlacedParts) RtpElementError

-- an element of so many bytes at a place, of those that stand from there on
abbrev pub placed_of : ℕ → ℕ → ℕ → List ℕ → PlacedAnswer
placed_of id place size bytes =
    if nat_lt (length bytes) size then Err PastTheEnd
    else Ok (Some (record {
      place = place;
      parts = record { id = id; bytes = take size bytes };
    }))

-- the element whose first byte, no padding, is at a place, by those behind it: none where that ends the
-- elements (RFC 8285, 4.2 and 4.3)
abbrev pub placed_at : ElementForm → ℕ → ℕ → List ℕ → PlacedAnswer
placed_at OneByte place byte bytes =
    if ends_short byte then Ok None
    else placed_of (byte / 16) (place + 1) (byte % 16 + 1) bytes
placed_at TwoBytes place byte [] = Err PastTheEnd
placed_at TwoBytes place byte (size ∷ bytes) = placed_of byte (place + 2) size bytes

-- the first element of those that stand at a place, behind padding (RFC 8285, 4.1.2)
abbrev pub first_placed : ElementForm → ℕ → List ℕ → PlacedAnswer
first_placed form place [] = Ok None
first_placed form place (byte ∷ bytes) =
    if byte == 0 then first_placed form (place + 1) bytes else placed_at form place byte bytes

-- the first element of an extension from a place on
abbrev pub placed_by : Option ElementForm → ℕ → List ℕ → PlacedAnswer
placed_by (Some form) from bytes = first_placed form from (drop from bytes)
placed_by None from bytes = Ok None

abbrev pub extension_placed : ExtensionParts → ℕ → PlacedAnswer
extension_placed it from = placed_by (form_of it.profile) from it.bytes

-- What a packet is to a depacketizer, and what a depacketizer is, for every format.
use Rattle.std.specs.Prelude.{◌≡◌, ℕ, ◌≤◌, Bool, List, ◌++◌, length, map, Option, None}
use Rattle.h26x_core.specs.declared.extra.CodecExtra.{CodecExtra}
use Rattle.h26x_model.specs.Payload.Format.{Format}
use Rattle.h26x_model.specs.Payload.Reading.{Reading, Single, Aggregate, Fragment, Paci, Refused, without_don}
use Rattle.h26x_model.specs.Receive.DepacketizerState.{DepacketizerState, Depacketization, depacketization}
use Rattle.h26x_depacketizer.specs.Run.{header_bytes, fragment_reading, AreOfSize}
use Rattle.h26x_depacketizer.specs.UnitSink.{bytes_brought}
use Rattle.h26x_depacketizer.specs.declared.parts.Parts.{Parts}
use Rattle.h26x_depacketizer.specs.declared.parts.Parts.TheVariants as p

-- what a reading is to a depacketizer: no number counts, and the unit of a PACI packet is a unit
abbrev pub taken_as : Reading → Reading
taken_as (Single unit don) = Single unit None
taken_as (Aggregate units) = Aggregate (map (λ u. without_don u.0) units)
taken_as (Fragment start end head don body) = Fragment start end head None body
taken_as (Paci head fields extension body) = Single (head ++ body) None
taken_as (Refused error) = Refused error

-- what the parts of a packet stand for, where these are the units of an aggregate's bytes
abbrev pub parts_reading : Format → (List ℕ → List (List ℕ)) → List ℕ → Parts → Reading
parts_reading f units packet p.Whole = Single packet None
parts_reading f units packet (p.Unit head body) = Single (header_bytes f head ++ body.now) None
parts_reading f units packet (p.Aggregate bytes size) = Aggregate (map without_don (units bytes.now))
parts_reading f units packet (p.Fragment fragment) = fragment_reading f fragment

-- the same of a codec's packet
abbrev pub reading_of : {C : Type 0} → (C → Format) → (C → List ℕ → List (List ℕ)) → C → List ℕ →
    Parts → Reading
reading_of format units codec packet parts = parts_reading (format codec) (units codec) packet parts

-- What is known of them: a header is whole, and the units of an aggregate are of this size.
abbrev pub AreChecked : Format → (List ℕ → List (List ℕ)) → List ℕ → Parts → Type 0
AreChecked f units packet p.Whole = f.header_len ≤ length packet
AreChecked f units packet (p.Unit head body) = length (header_bytes f head) ≡ f.header_len
AreChecked f units packet (p.Aggregate bytes size) = AreOfSize (units bytes.now) size
AreChecked f units packet (p.Fragment fragment) = length (header_bytes f fragment.head)
    ≡ f.header_len

-- a packet is read as these parts: they stand for its reading, and what they hold is known
pub record IsReadAs (f : Format) (units : List ℕ → List (List ℕ)) (packet : List ℕ)
    (parts : Parts) : Type 0 where
  pub reading : taken_as (f.read packet) ≡ parts_reading f units packet parts
  pub checked : AreChecked f units packet parts

-- a depacketizer: its setting, whether it writes lengths, the data of its open run, and what it shows
-- of the packet that it accepted last
pub record DepacketizerView (C S : Type 0) : Type 0 where
  pub codec : C
  pub is_avc : Bool
  pub run : Option (List ℕ)
  pub payload : S

-- the same, which writes lengths or not
abbrev pub in_form : {C S : Type 0} → Bool → DepacketizerView C S → DepacketizerView C S
in_form is_avc it = record it { is_avc = is_avc }

-- it as a depacketizer of a format
abbrev pub depacketizer_state : {C S : Type 0} → Format → DepacketizerView C S → DepacketizerState
depacketizer_state f it = record { format = f; is_avc = it.is_avc; run = it.run }

-- the same by its setting, where each setting has a format
abbrev pub depacketizer_of : {C S : Type 0} → (C → Format) → DepacketizerView C S → DepacketizerState
depacketizer_of format it = depacketizer_state (format it.codec) it

-- the bytes that a packet brings to it
abbrev pub brought_to : {C S : Type 0} → (C → Format) → DepacketizerView C S → List ℕ → List ℕ
brought_to format it packet = bytes_brought (depacketizer_of format it) packet

-- a depacketizer, what was written so far, and what is told
abbrev pub view_depacketization : {C S : Type 0} → Format → DepacketizerView C S → List ℕ → CodecExtra →
    Depacketization
view_depacketization f it out extra = depacketization (depacketizer_state f it) out extra

-- the same by its setting
abbrev pub depacketization_of : {C S : Type 0} → (C → Format) → DepacketizerView C S → List ℕ →
    CodecExtra → Depacketization
depacketization_of format it out extra = view_depacketization (format it.codec) it out extra

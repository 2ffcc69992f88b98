-- Where units are written, as contracts see it.
use Rattle.std.specs.Prelude.{◌≡◌, ◌⊎◌, ℕ, ◌-◌, ◌<◌, Bool, true, List, [], ◌∷◌, ◌++◌, length, take, drop, Result, Err}
use Rattle.std.specs.Borrow.{GName}
use Rattle.h26x_core.specs.ByteStream.{byte_stream}
use Rattle.h26x_core.specs.declared.error.PacketError.{PacketError}
use Rattle.h26x_core.specs.declared.error.PacketError.TheVariants.{OutOfMemory}
use Rattle.h26x_model.specs.Receive.DepacketizerState.{DepacketizerState, units_brought}

-- What was written, what stands behind it where that is memory of a caller, and which memory it is.
pub record Sink : Type 0 where
  pub bytes : List ℕ
  pub behind : List ℕ
  pub memory : List GName

-- a list of bytes: it grows, and nothing stands behind it
abbrev pub list_sink : List ℕ → Sink
list_sink bytes = record { bytes = bytes; behind = []; memory = [] }

-- memory of which so many bytes were written
abbrev pub memory_sink : ℕ → List ℕ → GName → Sink
memory_sink len memory name = record {
  bytes = take len memory;
  behind = drop len memory;
  memory = name ∷ [];
}

-- a sink once these bytes were written behind the others
abbrev pub with_written : Sink → List ℕ → Sink
with_written s bytes = record {
  bytes = s.bytes ++ bytes;
  behind = drop (length bytes) s.behind;
  memory = s.memory;
}

-- behind what was written before stand these bytes
abbrev pub IsWritten : {S : Type 0} → (S → Sink) → S → S → List ℕ → Type 0
IsWritten sink old new bytes = sink new ≡ with_written (sink old) bytes

-- a sink once these are all its bytes
abbrev pub grown_to : List ℕ → Sink → Sink
grown_to bytes s = record {
  bytes = bytes;
  behind = drop (length bytes - length s.bytes) s.behind;
  memory = s.memory;
}

-- the bytes that a packet brings, where a depacketizer is in this state
abbrev pub bytes_brought : DepacketizerState → List ℕ → List ℕ
bytes_brought state packet = byte_stream state.is_avc (units_brought state (packet ∷ []))

-- what a sink of so much room tells once a call was to write these bytes: that room lacks, where the
-- call was refused for it; else what it told before
abbrev pub IsRoomTold : {A : Type 0} → Result A PacketError → List ℕ → ℕ → Bool → Bool → Type 0
IsRoomTold result bytes room before after = (after ≡ before)
    ⊎ ((after ≡ true) × ((result ≡ Err OutOfMemory) × (room < length bytes)))

-- the same of a sink with this room that tells this
abbrev pub TellsRoom : {S A : Type 0} → (S → ℕ) → (S → Bool) → S → S → Result A PacketError →
    List ℕ → Type 0
TellsRoom room lacks old new result bytes =
    IsRoomTold result bytes (room old) (lacks old) (lacks new)

-- where there is something to write, want of memory is want of room, and the sink tells it
abbrev pub WantsRoom : {A B : Type 0} → Result A PacketError → List B → Bool → Type 0
WantsRoom result written lacks = result ≡ Err OutOfMemory → 0 < length written → lacks ≡ true

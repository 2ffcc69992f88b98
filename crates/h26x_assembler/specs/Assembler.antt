-- An assembler of access units, by what it holds.
use Rattle.std.specs.Prelude.{◌≡◌, ℕ, Bool, List, Result}
use Rattle.h26x_core.specs.declared.error.PacketError.{PacketError}
use Rattle.h26x_model.specs.Receive.DepacketizerState.{DepacketizerState}
use Rattle.h26x_receiver.specs.declared.received.Received.{Received}
use Rattle.h26x_assembler.specs.declared.access_unit.AccessUnit.{AccessUnit}
use Rattle.h26x_assembler.specs.declared.assembler.AccessUnitAssembler.{AccessUnitAssembler}
use Rattle.h26x_reorder.specs.Rtp.{RtpBody}
use Rattle.h26x_assembler.specs.AccessUnit.{AccessUnitValue, Assembly, IsNoneOpen, parts_at, after_rtp, is_text_given_up}
use Rattle.h26x_assembler.specs.StampedCalls.{AreAccessUnitsBrought, NoneBroughtIsRefused}
use Rattle.h26x_assembler.specs.AnyUnits.{AreAnyUnitsBrought}

-- as it stands, with those that ended, by what its depacketizer is
abbrev pub assembly_at : {D : Type 0} → (D → DepacketizerState) → AccessUnitAssembler D →
    List AccessUnit → Assembly
assembly_at state it ended = parts_at state it.packets it.unit ended

-- the same after a packet with its answer
abbrev pub after_receiving : {D : Type 0} → (D → DepacketizerState) → AccessUnitAssembler D →
    List AccessUnit → ℕ × RtpBody → Result Received PacketError → Assembly
after_receiving state it ended p answer =
    after_rtp it.packets.run_limit it.unit_limit (assembly_at state it ended) p answer

-- whether the text that a packet leaves open is given up, since it is longer than the limit
abbrev pub gives_text_up : {D : Type 0} → (D → DepacketizerState) → AccessUnitAssembler D →
    List AccessUnit → ℕ × RtpBody → Bool
gives_text_up state it ended p =
    is_text_given_up it.packets.run_limit it.unit_limit (assembly_at state it ended) p

-- it stands as this step leaves it that passes over a number, whichever access units ended before
abbrev pub IsNumberPassed : {D : Type 0} → (Assembly → ℕ → Assembly) →
    (D → DepacketizerState) → AccessUnitAssembler D → ℕ → AccessUnitAssembler D → Type 0
IsNumberPassed step state old number new = (ended : List AccessUnit) →
    assembly_at state new ended ≡ step (assembly_at state old ended) number

-- where no access unit is open in it, these are what a network brings of calls
abbrev pub BringsAccessUnits : {D : Type 0} → (D → DepacketizerState) → AccessUnitAssembler D →
    List AccessUnit → ℕ → List (ℕ × RtpBody) → List (Result Received PacketError) →
    List AccessUnitValue → Type 0
BringsAccessUnits state it ended window packets answers units =
    IsNoneOpen it.unit.unit it.unit.is_gap → AreAccessUnitsBrought window it.packets.run_limit
    it.unit_limit (assembly_at state it ended) packets answers units

-- so of any sender's packets
abbrev pub BringsAnyUnits : {D : Type 0} → (D → DepacketizerState) → AccessUnitAssembler D →
    List AccessUnit → ℕ → List (ℕ × RtpBody) → List (Result Received PacketError) →
    List AccessUnitValue → Type 0
BringsAnyUnits state it ended window packets answers units =
    IsNoneOpen it.unit.unit it.unit.is_gap → AreAnyUnitsBrought window it.packets.run_limit
    it.unit_limit (assembly_at state it ended) packets answers units

-- of what a network brings of calls none is refused for what it is
abbrev pub RefusesNoneBrought : {D : Type 0} → (D → DepacketizerState) → AccessUnitAssembler D →
    List AccessUnit → ℕ → List (ℕ × RtpBody) → List (Result Received PacketError) → Type 0
RefusesNoneBrought state it ended window packets answers =
    NoneBroughtIsRefused window (assembly_at state it ended) packets answers

-- The PACI packet of a unit and an extension (RFC 7798, 4.4.4).
use Rattle.std.specs.Prelude.{ℕ, ◌+◌, ◌*◌, nat_le, List, [], ◌∷◌, ◌++◌, length}
use Rattle.h26x_core.specs.Word.{flag, word}
use Rattle.h26x_core.specs.H265Unit.{is_forbidden, type_of}
use Rattle.h265_packets.specs.Header.{with_type}

-- The word of its fields, by the high byte of the unit's header: A is the unit's F, cType its type,
-- PHSsize the extension's length. F0 is set where the extension has three bytes or more; F1, F2 and
-- Y are clear.
abbrev pub paci_fields : ℕ → List ℕ → ℕ
paci_fields high phes = flag (is_forbidden high) 0x8000 + type_of high * 512 + length phes * 16
    + flag (nat_le 3 (length phes)) 8

-- the packet: the unit's header with type 50 and F clear, the fields, the extension, and the unit
-- without its header
abbrev pub paci_packet : List ℕ → List ℕ → List ℕ
paci_packet (high ∷ low ∷ unit) phes = (with_type high 50 ∷ low ∷ []) ++ word
    (paci_fields high phes) ++ phes ++ unit
paci_packet unit phes = []

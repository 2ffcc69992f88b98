-- What a packetizer sends where every unit goes, and keeps.
use Rattle.std.specs.Prelude.{ℕ, ◌+◌, ◌%◌, Bool, if◌then◌else◌, List, length}
use Rattle.h26x_model.specs.Payload.Format.{Format}
use Rattle.h26x_model.specs.Send.Packets.{plan_packets}
use Rattle.h26x_model.specs.Send.Every.{every_unit, with_own_aggregates}
use Rattle.h26x_model.specs.Send.Calls.{packet_limit}
use Rattle.h26x_model.specs.Send.PacketizerState.{PacketizerState}
use Rattle.h26x_packetizer.specs.PacketizerView.{PacketizerView, packetizer_of}

-- the format of a packetizer where every unit goes
abbrev pub every_format : {C : Type 0} → (C → Format) → (C → ℕ → List (List ℕ) → List ℕ) →
    PacketizerView C → Format
every_format format aggregate h = with_own_aggregates (format h.codec) (aggregate h.codec)

-- the packets of units by this packetizer, of which these may share one
abbrev pub state_every_packets : Format → (List ℕ → Bool) → PacketizerState → ℕ → List (List ℕ) →
    List (List ℕ)
state_every_packets every share s mtu units = plan_packets every s.next_don
    (every_unit every share (packet_limit s.format s.max_packet_size mtu) units)

-- the packetizer after them: each unit took a number, where packets bear them; the sets that wait stay
abbrev pub after_units : PacketizerState → List (List ℕ) → PacketizerState
after_units s units = record s {
  next_don = if s.format.has_donl then (s.next_don + length units) % 65536 else s.next_don;
}

-- the same by its setting
abbrev pub every_packets : {C : Type 0} → (C → Format) → (C → ℕ → List (List ℕ) → List ℕ) →
    (List ℕ → Bool) → PacketizerView C → ℕ → List (List ℕ) → List (List ℕ)
every_packets format aggregate share h mtu units = state_every_packets
    (every_format format aggregate h) share (packetizer_of format h) mtu units

abbrev pub view_after_units : {C : Type 0} → (C → Format) → PacketizerView C → List (List ℕ) →
    PacketizerView C
view_after_units format h units = record h {
  next_don = (after_units (packetizer_of format h) units).next_don;
}

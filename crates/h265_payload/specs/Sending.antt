-- H.265 as it is sent: sets that share a packet have the header of the unit behind them, or one of
-- their own (RFC 7798, 4.4.2).
use Rattle.std.specs.Prelude.{◌≡◌, ℕ, Bool, true, false, List}
use Rattle.h26x_model.specs.Payload.Format.{Format}
use Rattle.h26x_model.specs.Receive.DepacketizerState.{Depacketization, after_packets}
use Rattle.h265_payload.specs.H265.{h265, sets_packet}
use Rattle.h265_payload.specs.EveryUnit.{own_aggregate}

-- the packet of sets, with the header that RFC 7798, 4.4.2 asks for where that is set
abbrev pub headed_packet : Bool → Bool → ℕ → List (List ℕ) → List ℕ → List ℕ
headed_packet has_donl true = λ don sets unit. own_aggregate has_donl don sets
headed_packet has_donl false = sets_packet has_donl

-- the format, with numbers or without, and with that header or without
abbrev pub h265_headed : Bool → Bool → Format
h265_headed has_donl lowest_header =
    record (h265 has_donl) { sets_packet = headed_packet has_donl lowest_header }

-- a depacketizer at work, where its packets are of a format
abbrev pub at_format : Format → Depacketization → Depacketization
at_format f w = record w { state = record w.state { format = f } }

-- It takes packets as it does those of the format with the header of the unit behind: which header is
-- set changes nothing of receiving.
abbrev pub TakesHeadedAlike : Bool → Bool → Depacketization → List (List ℕ) → Type 0
TakesHeadedAlike has_donl lowest_header w packets =
    at_format (h265 has_donl) (after_packets (at_format (h265_headed has_donl lowest_header) w) packets)
    ≡ after_packets (at_format (h265 has_donl) w) packets

-- What stands behind a handle in the words of the payload formats: a packetizer with its packets, or
-- a depacketizer or a receiver of packets with their sequence numbers, with what it wrote.
use Rattle.std.specs.Prelude.{◌≡◌, ℕ, Bool, if◌then◌else◌, List, [], ◌∷◌, Option, None}
use Rattle.h26x_model.specs.Send.PacketizerState.{PacketizerState}
use Rattle.h26x_model.specs.Receive.DepacketizerState.{DepacketizerState, Depacketization, depacketization, after_packets}
use Rattle.h26x_codec.specs.Codec.{codec_headed_format}
use Rattle.h26x_codec.specs.declared.codec.Codec.{Codec}
use Rattle.std.specs.Option.{option_map}
use Rattle.h26x_codec.specs.SentUnits.{sent_units, refused_among_all}
use Rattle.h26x_codec.specs.AnyPacketizer.{any_packetizer_state, any_packetizer_codec, any_every_packets, any_units_refusal}
use Rattle.h26x_packetizer.specs.declared.refusal.RefusedUnit.{RefusedUnit}
use Rattle.h26x_core.specs.declared.extra.CodecExtra.{CodecExtra}
use Rattle.h26x_model.specs.Receive.RunLimit.{run_len}
use Rattle.h26x_receiver.specs.Sequenced.{SequencedDepacketization, sequenced_depacketization, after_taken_packet, is_run_kept, expected_after_skip}
use Rattle.h26x_codec.specs.AnyDepacketizer.{any_depacketizer_state, any_depacketizer_with_avc, any_depacketizer_with_run, fresh_any_depacketizer, any_depacketizer_showing}
use Rattle.h26x_codec.specs.declared.any_depacketizer.AnyDepacketizer.{AnyDepacketizer}
use Rattle.h26x_handles.specs.Endpoint.{SendingEndpoint, SequencedEndpoint}

-- a packetizer that has decoding order numbers, from 0, or none, and the header of parameter sets
-- themselves where they share a packet, or not
abbrev pub state_with_donl : Codec → Bool → Bool → PacketizerState → PacketizerState
state_with_donl codec has_donl lowest_header it =
    record it { format = codec_headed_format codec has_donl lowest_header; next_don = 0 }

-- a packetizer that has that header, or not
abbrev pub state_with_lowest_header : Codec → Bool → PacketizerState → PacketizerState
state_with_lowest_header codec lowest_header it =
    record it { format = codec_headed_format codec it.format.has_donl lowest_header }

-- a depacketizer that is told with a packet to write units behind lengths or behind start codes
abbrev pub told_depacketizer_state : Bool → AnyDepacketizer → DepacketizerState
told_depacketizer_state is_avc it = any_depacketizer_state (any_depacketizer_with_avc is_avc it)

-- the same with what was written and told so far
abbrev pub told_depacketization : Bool → AnyDepacketizer → List ℕ → CodecExtra → Depacketization
told_depacketization is_avc it out extra =
    depacketization (told_depacketizer_state is_avc it) out extra

-- what stands once it has taken a packet, where nothing was written before
abbrev pub after_told_packet : Bool → AnyDepacketizer → CodecExtra → List ℕ → Depacketization
after_told_packet is_avc it extra packet =
    after_packets (told_depacketization is_avc it [] extra) (packet ∷ [])

-- a depacketizer is as before but for its run, and shows a packet
abbrev pub IsShowing : List ℕ → AnyDepacketizer → AnyDepacketizer → Type 0
IsShowing packet old new = any_depacketizer_with_run None new
    ≡ any_depacketizer_with_run None (any_depacketizer_showing packet old)

-- what a packetizer is that keeps the packets of its last call
abbrev pub sending_state : SendingEndpoint → PacketizerState
sending_state it = any_packetizer_state it.packetizer

-- the units of an access unit in Annex B form that it sends where every unit goes
abbrev pub sending_units : SendingEndpoint → List ℕ → List (List ℕ)
sending_units it access_unit =
    sent_units it.settings.delimiters (any_packetizer_codec it.packetizer) access_unit

-- the packets that it makes of them
abbrev pub sending_every_packets : SendingEndpoint → ℕ → List ℕ → List (List ℕ)
sending_every_packets it mtu access_unit = any_every_packets it.settings.packing it.packetizer mtu
    (sending_units it access_unit)

-- one of them that is refused, by its place among all units of the access unit
abbrev pub sending_refused : SendingEndpoint → List ℕ → RefusedUnit → RefusedUnit
sending_refused it access_unit unit =
    refused_among_all it.settings.delimiters (any_packetizer_codec it.packetizer) access_unit unit

-- the first of them that can't go
abbrev pub sending_refusal : SendingEndpoint → ℕ → List ℕ → Option RefusedUnit
sending_refusal it mtu access_unit = option_map (sending_refused it access_unit)
    (any_units_refusal it.settings.packing it.packetizer mtu (sending_units it access_unit))

-- a receiver of packets with their sequence numbers before it takes one, with what was told so far
abbrev pub receiver_at_work : SequencedEndpoint → CodecExtra → SequencedDepacketization
receiver_at_work it extra = sequenced_depacketization (any_depacketizer_state it.depacketizer)
    it.expected [] extra

-- what stands once it has taken one
abbrev pub after_receiver_packet : SequencedEndpoint → CodecExtra → ℕ → List ℕ →
    SequencedDepacketization
after_receiver_packet it extra number packet = after_taken_packet it.run_limit
    (receiver_at_work it extra) number packet

-- such a receiver after a number that came and bears nothing of the stream: the open run is given up
-- where numbers before it are missing
abbrev pub receiver_after_skip : SequencedEndpoint → ℕ → SequencedEndpoint
receiver_after_skip it number = record it {
  depacketizer = if is_run_kept it.expected number then it.depacketizer
      else any_depacketizer_with_run None it.depacketizer;
  expected = expected_after_skip it.expected number;
}

-- how many bytes the open run of such a receiver holds
abbrev pub receiver_run_len : SequencedEndpoint → ℕ
receiver_run_len it = run_len (any_depacketizer_state it.depacketizer).run

-- a new receiver of packets with their sequence numbers
abbrev pub fresh_receiver : Codec → Bool → Bool → ℕ → SequencedEndpoint
fresh_receiver codec has_donl is_avc run_limit = record {
  depacketizer = any_depacketizer_with_avc is_avc (fresh_any_depacketizer codec has_donl);
  expected = None;
  run_limit = run_limit;
  written = [];
}

-- What an endpoint is in the words of the payload formats: a packetizer with its packets, or a
-- depacketizer or a receiver with what it wrote, or a receiver of access units, of packets or of
-- datagrams, or a sender of datagrams.
use Rattle.std.specs.Prelude.{ℕ, Bool, true, false, List, [], Option, Some, None}
use Rattle.h26x_model.specs.Send.PacketizerState.{PacketizerState}
use Rattle.h26x_model.specs.Receive.DepacketizerState.{DepacketizerState, Depacketization, depacketization}
use Rattle.h26x_assembler.specs.AccessUnit.{OpenUnits}
use Rattle.h26x_codec.specs.declared.codec.Codec.{Codec}
use Rattle.h26x_codec.specs.declared.codec.Codec.TheVariants as c
use Rattle.h26x_codec.specs.AnyPacketizer.{any_packetizer_state, any_packetizer_codec}
use Rattle.h26x_receiver.specs.Sequenced.{SequencedDepacketization}
use Rattle.h26x_codec.specs.AnyDepacketizer.{any_depacketizer_state, any_depacketizer_with_avc, any_depacketizer_codec, any_depacketizer_with_donl, any_depacketizer_with_run, fresh_any_depacketizer, any_depacketizer_showing, are_same_depacketizers, any_depacketizer_shown}
use Rattle.h26x_handles.specs.Endpoint.{SequencedEndpoint}
use Rattle.h26x_codes.specs.Codes.{extra_with_number}
use Rattle.h26x_sdp_handles.specs.Sdp.{sdp_codec}
use Rattle.h26x_endpoint.specs.declared.endpoint.Endpoint.{Endpoint}
use Rattle.h26x_endpoint.specs.declared.endpoint.Endpoint.TheVariants as e
use Rattle.h26x_handles.specs.declared.settings.SendingSettings.{SendingSettings}
use Rattle.h26x_packetizer.specs.declared.refusal.RefusedUnit.{RefusedUnit}
use Rattle.h26x_handles.specs.States.{sending_units, sending_every_packets, sending_refusal, told_depacketizer_state, after_told_packet, receiver_at_work, after_receiver_packet, receiver_after_skip, receiver_run_len, fresh_receiver}
use Rattle.h26x_handles.specs.UnitsState.{UnitsState, units_deadline, units_open, units_missing}
use Rattle.h26x_handles.specs.AccessUnits.{units_state_of}
use Rattle.h26x_handles.specs.RtpState.{RtpState, rtp_deadline, rtp_open}
use Rattle.h26x_handles.specs.RtpReceivers.{rtp_state_of}
use Rattle.h26x_rtp_sender.specs.Sending.{RtpSending}
use Rattle.h265_packets.specs.declared.payload.H265Payload.{H265Payload}
use Rattle.h26x_handles.specs.Shown.{Part, any_depacketizer_parts}

-- the packetizer at an endpoint
abbrev pub endpoint_packetizer_state : Endpoint → Option PacketizerState
endpoint_packetizer_state (e.Sending it) = Some (any_packetizer_state it.packetizer)
endpoint_packetizer_state it = None

-- whether its parameter sets that share a packet are set to have the header of their own
abbrev pub endpoint_lowest_header : Endpoint → Bool
endpoint_lowest_header (e.Sending it) = it.settings.lowest_header
endpoint_lowest_header it = false

-- its settings
abbrev pub endpoint_settings : Endpoint → Option SendingSettings
endpoint_settings (e.Sending it) = Some it.settings
endpoint_settings it = None

-- the units of an access unit in Annex B form that it sends where every unit goes
abbrev pub endpoint_units_sent : Endpoint → List ℕ → List (List ℕ)
endpoint_units_sent (e.Sending it) access_unit = sending_units it access_unit
endpoint_units_sent it access_unit = []

-- the packets that it makes of them
abbrev pub endpoint_every_packets : Endpoint → ℕ → List ℕ → List (List ℕ)
endpoint_every_packets (e.Sending it) mtu access_unit = sending_every_packets it mtu access_unit
endpoint_every_packets it mtu access_unit = []

-- the first of these units that can't go
abbrev pub endpoint_refusal : Endpoint → ℕ → List ℕ → Option RefusedUnit
endpoint_refusal (e.Sending it) mtu access_unit = sending_refusal it mtu access_unit
endpoint_refusal it mtu access_unit = None

-- the packets of its last call
abbrev pub endpoint_packets : Endpoint → List (List ℕ)
endpoint_packets (e.Sending it) = it.packets
endpoint_packets it = []

-- the depacketizer at an endpoint, which writes lengths or start codes as it is told
abbrev pub endpoint_depacketizer_state : Bool → Endpoint → Option DepacketizerState
endpoint_depacketizer_state is_avc (e.Receiving it) =
    Some (told_depacketizer_state is_avc it.depacketizer)
endpoint_depacketizer_state is_avc it = None

-- that depacketizer before it takes a packet, of which the number of an extra was told so far
abbrev pub endpoint_depacketization : Bool → Endpoint → ℕ → Option Depacketization
endpoint_depacketization is_avc (e.Receiving it) told = Some (depacketization
    (told_depacketizer_state is_avc it.depacketizer) []
    (extra_with_number (any_depacketizer_codec it.depacketizer) told))
endpoint_depacketization is_avc it told = None

-- what stands once it has taken one
abbrev pub endpoint_after_told_packet : Bool → Endpoint → ℕ → List ℕ → Option Depacketization
endpoint_after_told_packet is_avc (e.Receiving it) told packet = Some (after_told_packet is_avc
    it.depacketizer (extra_with_number (any_depacketizer_codec it.depacketizer) told) packet)
endpoint_after_told_packet is_avc it told packet = None

-- the receiver of packets with their sequence numbers at an endpoint
abbrev pub endpoint_receiver : Endpoint → Option SequencedEndpoint
endpoint_receiver (e.Sequenced it) = Some it
endpoint_receiver it = None

-- such a receiver before it takes a packet, of which the number of an extra was told so far
abbrev pub endpoint_at_work : Endpoint → ℕ → Option SequencedDepacketization
endpoint_at_work (e.Sequenced it) told = Some (receiver_at_work it
    (extra_with_number (any_depacketizer_codec it.depacketizer) told))
endpoint_at_work it told = None

-- what stands once it has taken one with its sequence number
abbrev pub endpoint_after_packet : Endpoint → ℕ → ℕ → List ℕ → Option SequencedDepacketization
endpoint_after_packet (e.Sequenced it) told number packet = Some (after_receiver_packet it
    (extra_with_number (any_depacketizer_codec it.depacketizer) told) number packet)
endpoint_after_packet it told number packet = None

-- what the depacketizer of such a receiver is to the definitions
abbrev pub endpoint_receiver_state : Endpoint → Option DepacketizerState
endpoint_receiver_state (e.Sequenced it) = Some (any_depacketizer_state it.depacketizer)
endpoint_receiver_state it = None

-- the number that it expects next, if it took a packet
abbrev pub endpoint_expected : Endpoint → Option ℕ
endpoint_expected (e.Sequenced it) = it.expected
endpoint_expected it = None

-- how many bytes its open run holds
abbrev pub endpoint_run_len : Endpoint → ℕ
endpoint_run_len (e.Sequenced it) = receiver_run_len it
endpoint_run_len it = 0

-- what the last packet that it took completed, and had no room where it was to be written
abbrev pub endpoint_written : Endpoint → List ℕ
endpoint_written (e.Receiving it) = it.written
endpoint_written (e.Sequenced it) = it.written
endpoint_written it = []

-- its codec; a sender of datagrams has none, and any stands for it
abbrev pub endpoint_codec : Endpoint → Codec
endpoint_codec (e.Sending it) = any_packetizer_codec it.packetizer
endpoint_codec (e.Receiving it) = any_depacketizer_codec it.depacketizer
endpoint_codec (e.Sequenced it) = any_depacketizer_codec it.depacketizer
endpoint_codec (e.AccessUnits it) = it.codec
endpoint_codec (e.RtpReceiver it) = it.codec
endpoint_codec (e.RtpSender it) = c.H264
endpoint_codec (e.Sdp it) = sdp_codec it

abbrev pub is_sending : Endpoint → Bool
is_sending (e.Sending it) = true
is_sending it = false

-- whether it receives packets without their sequence numbers
abbrev pub is_receiving : Endpoint → Bool
is_receiving (e.Receiving it) = true
is_receiving it = false

-- whether it receives packets with their sequence numbers
abbrev pub is_sequenced : Endpoint → Bool
is_sequenced (e.Sequenced it) = true
is_sequenced it = false

-- an endpoint without packets, or without what was completed
abbrev pub endpoint_without_output : Endpoint → Endpoint
endpoint_without_output (e.Sending it) = e.Sending (record it { packets = [] })
endpoint_without_output (e.Receiving it) = e.Receiving (record it { written = [] })
endpoint_without_output (e.Sequenced it) = e.Sequenced (record it { written = [] })
endpoint_without_output it = it

-- the packetizer in a place into which an endpoint was put or not
abbrev pub place_packetizer_state : Option Endpoint → Option PacketizerState
place_packetizer_state None = None
place_packetizer_state (Some it) = endpoint_packetizer_state it

abbrev pub place_packets : Option Endpoint → List (List ℕ)
place_packets None = []
place_packets (Some it) = endpoint_packets it

abbrev pub place_settings : Option Endpoint → Option SendingSettings
place_settings None = None
place_settings (Some it) = endpoint_settings it

-- an endpoint whose depacketizer reads numbers or not
abbrev pub endpoint_with_donl : Bool → Endpoint → Endpoint
endpoint_with_donl has_donl (e.Receiving it) = e.Receiving (record it {
  depacketizer = any_depacketizer_with_donl has_donl it.depacketizer;
})
endpoint_with_donl has_donl (e.Sequenced it) = e.Sequenced (record it {
  depacketizer = any_depacketizer_with_donl has_donl it.depacketizer;
})
endpoint_with_donl has_donl it = it

-- an endpoint whose receiver writes units behind lengths or behind start codes
abbrev pub endpoint_with_avc : Bool → Endpoint → Endpoint
endpoint_with_avc is_avc (e.Sequenced it) = e.Sequenced (record it {
  depacketizer = any_depacketizer_with_avc is_avc it.depacketizer;
})
endpoint_with_avc is_avc it = it

-- an endpoint whose depacketizer has no run open
abbrev pub endpoint_without_run : Endpoint → Endpoint
endpoint_without_run (e.Receiving it) = e.Receiving
    (record it { depacketizer = any_depacketizer_with_run None it.depacketizer })
endpoint_without_run (e.Sequenced it) = e.Sequenced
    (record it { depacketizer = any_depacketizer_with_run None it.depacketizer })
endpoint_without_run it = it

-- an endpoint whose receiver takes any sequence number as the next, and has no run open
abbrev pub endpoint_restarted : Endpoint → Endpoint
endpoint_restarted (e.Sequenced it) = e.Sequenced (record it {
  depacketizer = any_depacketizer_with_run None it.depacketizer;
  expected = None;
})
endpoint_restarted it = it

-- an endpoint whose receiver passes over a number that bears nothing of the stream
abbrev pub endpoint_after_skip : ℕ → Endpoint → Endpoint
endpoint_after_skip number (e.Sequenced it) = e.Sequenced (receiver_after_skip it number)
endpoint_after_skip number it = it

-- an endpoint whose depacketizer shows a packet
abbrev pub endpoint_showing : List ℕ → Endpoint → Endpoint
endpoint_showing packet (e.Receiving it) = e.Receiving (record it {
  depacketizer = any_depacketizer_showing packet it.depacketizer;
})
endpoint_showing packet (e.Sequenced it) = e.Sequenced (record it {
  depacketizer = any_depacketizer_showing packet it.depacketizer;
})
endpoint_showing packet it = it

-- an endpoint with a new depacketizer
abbrev pub fresh_receiving_endpoint : Codec → Bool → Endpoint
fresh_receiving_endpoint codec has_donl = e.Receiving (record {
  depacketizer = fresh_any_depacketizer codec has_donl;
  written = [];
})

-- an endpoint with a new receiver of packets with their sequence numbers
abbrev pub fresh_sequenced_endpoint : Codec → Bool → Bool → ℕ → Endpoint
fresh_sequenced_endpoint codec has_donl is_avc run_limit = e.Sequenced
    (fresh_receiver codec has_donl is_avc run_limit)

-- whether two endpoints are depacketizers that are the same
abbrev pub are_same_endpoints : Endpoint → Endpoint → Bool
are_same_endpoints (e.Receiving a) (e.Receiving b) =
    are_same_depacketizers a.depacketizer b.depacketizer
are_same_endpoints a b = false

-- whether it gives out access units
abbrev pub is_access_units : Endpoint → Bool
is_access_units (e.AccessUnits it) = true
is_access_units it = false

-- what it is then to contracts
abbrev pub endpoint_units : Endpoint → Option UnitsState
endpoint_units (e.AccessUnits it) = Some (units_state_of it)
endpoint_units it = None

-- when it is to be asked again at the latest, if packets wait
abbrev pub endpoint_deadline : Endpoint → Option ℕ
endpoint_deadline (e.AccessUnits it) = units_deadline (units_state_of it)
endpoint_deadline it = None

-- the access unit that is open, as far as it came
abbrev pub endpoint_open : Endpoint → Option OpenUnits
endpoint_open (e.AccessUnits it) = units_open (units_state_of it)
endpoint_open it = None

-- the numbers that are missing before packets that wait
abbrev pub endpoint_missing : Endpoint → List ℕ
endpoint_missing (e.AccessUnits it) = units_missing (units_state_of it)
endpoint_missing it = []

-- what stands in a place into which an endpoint was put or not
abbrev pub place_units : Option Endpoint → Option UnitsState
place_units None = None
place_units (Some it) = endpoint_units it

-- whether it takes datagrams and gives out access units
abbrev pub is_rtp_receiver : Endpoint → Bool
is_rtp_receiver (e.RtpReceiver it) = true
is_rtp_receiver it = false

-- what it is then to contracts
abbrev pub endpoint_rtp : Endpoint → Option RtpState
endpoint_rtp (e.RtpReceiver it) = Some (rtp_state_of it)
endpoint_rtp it = None

-- when it is to be asked again at the latest, if packets wait
abbrev pub endpoint_rtp_deadline : Endpoint → Option ℕ
endpoint_rtp_deadline (e.RtpReceiver it) = rtp_deadline (rtp_state_of it)
endpoint_rtp_deadline it = None

-- the access unit that is open, as far as it came
abbrev pub endpoint_rtp_open : Endpoint → Option OpenUnits
endpoint_rtp_open (e.RtpReceiver it) = rtp_open (rtp_state_of it)
endpoint_rtp_open it = None

-- what stands in a place into which an endpoint was put or not
abbrev pub place_rtp : Option Endpoint → Option RtpState
place_rtp None = None
place_rtp (Some it) = endpoint_rtp it

-- whether it sends datagrams
abbrev pub is_rtp_sender : Endpoint → Bool
is_rtp_sender (e.RtpSender it) = true
is_rtp_sender it = false

-- what it is then to contracts
abbrev pub endpoint_rtp_sending : Endpoint → Option RtpSending
endpoint_rtp_sending (e.RtpSender it) = Some it
endpoint_rtp_sending it = None

-- what stands in a place into which an endpoint was put or not
abbrev pub place_rtp_sending : Option Endpoint → Option RtpSending
place_rtp_sending None = None
place_rtp_sending (Some it) = endpoint_rtp_sending it

-- whether it is a depacketizer or a receiver of packets, whose packets can be shown
abbrev pub shows_packets : Endpoint → Bool
shows_packets (e.Receiving it) = true
shows_packets (e.Sequenced it) = true
shows_packets it = false

-- what an endpoint shows
abbrev pub endpoint_shown : Endpoint → Option H265Payload
endpoint_shown (e.Receiving it) = any_depacketizer_shown it.depacketizer
endpoint_shown (e.Sequenced it) = any_depacketizer_shown it.depacketizer
endpoint_shown it = None

-- the parts of what an endpoint shows
abbrev pub endpoint_parts : Endpoint → List Part
endpoint_parts (e.Receiving it) = any_depacketizer_parts it.depacketizer
endpoint_parts (e.Sequenced it) = any_depacketizer_parts it.depacketizer
endpoint_parts it = []

-- A receiver of datagrams behind a handle, and the access unit that had no room where it was to be
-- written (ours).
use Rattle.std.specs.Prelude.{◌≡◌, ℕ, Bool, if◌then◌else◌, List, Option, Some, None, is_some, Result, MatchOption}
use Rattle.h26x_access_units.specs.declared.config.AccessUnitConfig.{AccessUnitConfig}
use Rattle.h26x_access_units.specs.ReceivedAccessUnit.{ReceivedAccessUnitValue}
use Rattle.h26x_access_units.specs.Reception.{next_deadline, open_units}
use Rattle.h26x_assembler.specs.AccessUnit.{OpenUnits}
use Rattle.h26x_codec.specs.Codec.{codec_format}
use Rattle.h26x_codec.specs.declared.codec.Codec.{Codec}
use Rattle.h26x_rtp_receiver.specs.RtpReception.{RtpReception, fresh_rtp, followed_rtp, finished_rtp, rtp_with_settings, IsRtpPush, IsRtpNext, IsRtpNextInPart}
use Rattle.h26x_rtp_receiver.specs.declared.payload_types.RtpPayloadTypes.{RtpPayloadTypes}
use Rattle.h26x_rtp_receiver.specs.declared.pushed.RtpPushed.{RtpPushed}
use Rattle.h26x_rtp_receiver.specs.declared.pushed.RtpPushError.{RtpPushError}
use Rattle.h26x_rtp_receiver.specs.declared.sources.RtpSources.{RtpSources}
use Rattle.h26x_handles.specs.declared.access_units.NextAnswer.{NextAnswer}
use Rattle.h26x_handles.specs.UnitsState.{is_window, unit_without_room, buffer_with_unit, next_answer}

-- what it is to contracts: its codec, its receiver, and the access unit that had no room, until it is
-- given out
pub record RtpState : Type 0 where
  pub codec : Codec
  pub reception : RtpReception
  pub left : Option ReceivedAccessUnitValue

-- such a one, of its three parts
abbrev pub rtp_state : Codec → RtpReception → Option ReceivedAccessUnitValue → RtpState
rtp_state codec reception left = record { codec = codec; reception = reception; left = left }

-- before any datagram
abbrev pub fresh_rtp_state : Codec → Bool → Bool → RtpPayloadTypes → AccessUnitConfig → RtpState
fresh_rtp_state codec has_donl is_avc types config = record {
  codec = codec;
  reception = fresh_rtp types config (record {
    format = codec_format codec has_donl;
    is_avc = is_avc;
    run = None;
  });
  left = None;
}

-- the same with another state of its receiver
abbrev pub with_rtp_reception : RtpReception → RtpState → RtpState
with_rtp_reception reception it = record it { reception = reception }

-- the same with other settings from now on, where the window is one
abbrev pub rtp_state_with_settings : AccessUnitConfig → RtpState → RtpState
rtp_state_with_settings config it = if is_window config.window
    then with_rtp_reception (rtp_with_settings config it.reception) it else it

-- before any datagram of these sources; an access unit that had no room stays
abbrev pub rtp_state_followed : RtpSources → RtpState → RtpState
rtp_state_followed sources it = with_rtp_reception (followed_rtp sources it.reception) it

-- A datagram came, at this tick: its receiver answered so, and took it, or is as before.
pub record IsDatagramPushed (now arrival : ℕ) (datagram : List ℕ) (it : RtpState)
    (result : Result RtpPushed RtpPushError) (new : RtpState) : Type 0 where
  pub pushed : IsRtpPush now arrival it.reception datagram result new.reception
  pub stands : new ≡ with_rtp_reception new.reception it

-- an access unit, or none, is the next: the one that had no room before, or what the receiver gives out
abbrev pub IsRtpNextGiven : ℕ → RtpState → RtpReception → Option ReceivedAccessUnitValue → Type 0
IsRtpNextGiven now it reception unit = MatchOption it.left (IsRtpNext now it.reception unit reception)
    (λ kept. (unit ≡ Some kept) × (reception ≡ it.reception))

-- The next access unit goes to a buffer where it has room there, and else stays for the next call.
pub record IsRtpUnitGiven (now : ℕ) (it new : RtpState) (to new_to : List ℕ) (answer : NextAnswer) :
    Type 0 where
  pub unit : Option ReceivedAccessUnitValue
  pub is_next : IsRtpNextGiven now it new.reception unit
  pub stands : new ≡ record it { reception = new.reception; left = unit_without_room unit to }
  pub put : new_to ≡ buffer_with_unit unit to
  pub answered : answer ≡ next_answer unit to

-- Without memory nothing changed but that access units without bytes were passed over, or packets were
-- taken that were due, none of them lost; and no access unit waits for room, since that one wants no
-- memory.
pub record IsRtpOutOfMemory (now : ℕ) (it new : RtpState) : Type 0 where
  pub none : it.left ≡ None
  pub stands : new ≡ with_rtp_reception new.reception it
  pub taken : IsRtpNextInPart now it.reception new.reception

-- when it is to be asked again at the latest, if packets wait
abbrev pub rtp_deadline : RtpState → Option ℕ
rtp_deadline it = next_deadline it.reception.reception

-- the access unit that is open, as far as it came, where none that ended waits to be given out
abbrev pub rtp_open : RtpState → Option OpenUnits
rtp_open it = if is_some it.left then None else open_units it.reception.reception

-- at the end of the stream: all that waits is due
abbrev pub rtp_state_finished : RtpState → RtpState
rtp_state_finished it = with_rtp_reception (finished_rtp it.reception) it

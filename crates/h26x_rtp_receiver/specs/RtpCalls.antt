-- What the calls of a receiver of datagrams are to its receiver of access units.
use Rattle.std.specs.Prelude.{◌≡◌, ℕ, ◌<◌, ◌^◌, List, [], ◌∷◌, ◌++◌, length, Option, Result, Ok}
use Rattle.h26x_access_units.specs.declared.config.AccessUnitConfig.{AccessUnitConfig}
use Rattle.h26x_access_units.specs.Account.{ReceiverCall, PushCall, NextCall, LackCall, FinishCall, RestartCall, SettingsCall}
use Rattle.h26x_access_units.specs.ReceivedAccessUnit.{ReceivedAccessUnitValue}
use Rattle.h26x_rtp.specs.Datagram.{AreBytes}
use Rattle.h26x_rtp_receiver.specs.declared.pushed.RtpPushed.{RtpPushed}
use Rattle.h26x_rtp_receiver.specs.declared.pushed.RtpPushed.TheVariants.{Packet}
use Rattle.h26x_rtp_receiver.specs.declared.pushed.RtpPushError.{RtpPushError}
use Rattle.h26x_rtp_receiver.specs.declared.sources.RtpSources.{RtpSources}
use Rattle.h26x_rtp_receiver.specs.RtpReception.{RtpReception, Brought, Brings, brought, IsRtpPush, IsRtpNext, IsRtpNextInPart, followed_rtp, finished_rtp, rtp_with_settings}

-- a call of a receiver of datagrams, with its ticks and what it answered: `push`; `next`; `next` for
-- which memory lacked; `finish`; `follow`; `set_config`; and any that asks or reports, as `nacks`
pub data RtpCall : Type 0 where
  PushRtp : (now arrival : ℕ) (datagram : List ℕ) (result : Result RtpPushed RtpPushError) → RtpCall
  NextRtp : (now : ℕ) (unit : Option ReceivedAccessUnitValue) → RtpCall
  LackRtp : (now : ℕ) → RtpCall
  FinishRtp : RtpCall
  FollowRtp : (sources : RtpSources) → RtpCall
  SettingsRtp : (config : AccessUnitConfig) → RtpCall
  AskRtp : RtpCall

-- what a call makes of a receiver; what asks or reports leaves its receiver of access units
abbrev pub IsRtpCall : RtpCall → RtpReception → RtpReception → Type 0
IsRtpCall (PushRtp now arrival datagram result) s new = AreBytes datagram
    × (length datagram < 2 ^ 64) × IsRtpPush now arrival s datagram result new
IsRtpCall (NextRtp now unit) s new = IsRtpNext now s unit new
IsRtpCall (LackRtp now) s new = IsRtpNextInPart now s new
IsRtpCall FinishRtp s new = new ≡ finished_rtp s
IsRtpCall (FollowRtp sources) s new = new ≡ followed_rtp sources s
IsRtpCall (SettingsRtp config) s new = new ≡ rtp_with_settings config s
IsRtpCall AskRtp s new = new.reception ≡ s.reception

-- what a datagram gives the receiver of access units: the packet of the stream that it brings, at its
-- tick, if it brings one and memory doesn't lack
abbrev pub given_by : ℕ → Result Brought RtpPushError → Result RtpPushed RtpPushError →
    List ReceiverCall
given_by now (Ok (Brings it original)) (Ok (Packet taken)) =
    PushCall now original.packet taken.pushed ∷ []
given_by now brought result = []

-- the calls of the receiver of access units that a call makes
abbrev pub given_calls : RtpReception → RtpCall → List ReceiverCall
given_calls s (PushRtp now arrival datagram result) = given_by now (brought s datagram) result
given_calls s (NextRtp now unit) = NextCall now unit ∷ []
given_calls s (LackRtp now) = LackCall now ∷ []
given_calls s FinishRtp = FinishCall ∷ []
given_calls s (FollowRtp sources) = RestartCall ∷ []
given_calls s (SettingsRtp config) = SettingsCall config ∷ []
given_calls s AskRtp = []

-- calls one after the other, the last one first, and those of the receiver of access units
pub data AreRtpCalls (s : RtpReception) : List RtpCall → List ReceiverCall → RtpReception → Type 0
  where
    no_rtp_call : AreRtpCalls s [] [] s
    one_rtp_call : {call : RtpCall} {before : List RtpCall} {given : List ReceiverCall}
        {t new : RtpReception} → AreRtpCalls s before given t → IsRtpCall call t new →
        AreRtpCalls s (call ∷ before) (given_calls t call ++ given) new

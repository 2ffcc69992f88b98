-- The next access unit of a receiver of datagrams: the one that had no room, or what is given out.
use Rattle.std.proofs.Common.{◌≡◌, ◌∙◌, refl, sym, ap, subst, ℕ, List, Option, Some, None, Result, Ok, Err, inl, inr}
use Rattle.std.specs.Prelude.{MatchOption, OnErr}
use Rattle.h26x_access_units.specs.ReceivedAccessUnit.{ReceivedAccessUnitValue}
use Rattle.h26x_access_units.specs.Reception.{reception_answer}
use Rattle.h26x_rtp_receiver.specs.RtpReception.{RtpReception, Brought, Told, Brings, brought, told_packet, BecomesOf, IsRtpPush, IsRtpNext}
use Rattle.h26x_rtp_receiver.specs.declared.pushed.RtpPushed.{RtpPushed}
use Rattle.h26x_rtp_receiver.specs.declared.pushed.RtpPushError.{RtpPushError}
use Rattle.h26x_codec.specs.declared.codec.Codec.{Codec}
use Rattle.h26x_handles.specs.UnitsState.{unit_without_room, buffer_with_unit, next_answer}
use Rattle.h26x_handles.specs.RtpState.{RtpState, rtp_state, IsRtpUnitGiven}
use Rattle.h26x_handles.specs.declared.access_units.NextAnswer.{NextAnswer}

-- its receiver
abbrev reception_of : RtpState → RtpReception
reception_of it = it.reception

-- what stands then, by its receiver
stands_by : (codec : Codec) (r : RtpReception) (left : Option ReceivedAccessUnitValue) (new : RtpState) → new ≡ rtp_state codec r left → new ≡ rtp_state codec new.reception left
stands_by codec r left new is = is ∙ ap (λ (x : RtpReception). rtp_state codec x left) (sym (ap reception_of is))

-- the one that had no room before
pub kept_rtp_given : (now : ℕ) (codec : Codec) (r : RtpReception) (left : Option ReceivedAccessUnitValue) (new : RtpState) (kept : ReceivedAccessUnitValue) (to new_to : List ℕ) (answer : NextAnswer) →
    left ≡ Some kept → new ≡ rtp_state codec r (unit_without_room (Some kept) to) → new_to ≡ buffer_with_unit (Some kept) to → answer ≡ next_answer (Some kept) to →
    IsRtpUnitGiven now (rtp_state codec r left) new to new_to answer
kept_rtp_given now codec r left new kept to new_to answer there after put told = record {
  unit = Some kept;
  is_next = subst (λ (l : Option ReceivedAccessUnitValue). MatchOption l (IsRtpNext now r (Some kept) new.reception) (λ (k : ReceivedAccessUnitValue). (Some kept ≡ Some k) × (new.reception ≡ r)))
      (sym there) (refl, ap reception_of after);
  stands = stands_by codec r (unit_without_room (Some kept) to) new after;
  put = put;
  answered = told;
}

-- what the receiver gives out
pub next_rtp_given : (now : ℕ) (codec : Codec) (r next : RtpReception) (left given : Option ReceivedAccessUnitValue) (new : RtpState) (unit : ReceivedAccessUnitValue) (to new_to : List ℕ) (answer : NextAnswer) →
    left ≡ None → IsRtpNext now r given next → given ≡ Some unit → new ≡ rtp_state codec next (unit_without_room (Some unit) to) →
    new_to ≡ buffer_with_unit (Some unit) to → answer ≡ next_answer (Some unit) to → IsRtpUnitGiven now (rtp_state codec r left) new to new_to answer
next_rtp_given now codec r next left given new unit to new_to answer none is some after put told = record {
  unit = Some unit;
  is_next = subst (λ (l : Option ReceivedAccessUnitValue). MatchOption l (IsRtpNext now r (Some unit) new.reception) (λ (k : ReceivedAccessUnitValue). (Some unit ≡ Some k) × (new.reception ≡ r)))
      (sym none)
      (subst (λ (x : RtpReception). IsRtpNext now r (Some unit) x) (sym (ap reception_of after))
      (subst (λ (o : Option ReceivedAccessUnitValue). IsRtpNext now r o next) some is));
  stands = stands_by codec next (unit_without_room (Some unit) to) new after;
  put = put;
  answered = told;
}

-- what is refused by what a datagram brings leaves everything
refused_brought : (now arrival : ℕ) (s new : RtpReception) (b : Result Brought RtpPushError) (e : RtpPushError) → BecomesOf now arrival s b (Err e) new → new ≡ s
refused_brought now arrival s new (Err f) e it = it.1
refused_brought now arrival s new (Ok (Told pushed)) e it = it.1
refused_brought now arrival s new (Ok (Brings packet original)) e it =
    absurd (let bad : Err e ≡ Ok (told_packet original (reception_answer s.reception original.packet)) = it.0 in cc)

refused_datagram : (now arrival : ℕ) (s new : RtpReception) (datagram : List ℕ) (e : RtpPushError) → IsRtpPush now arrival s datagram (Err e) new → new ≡ s
refused_datagram now arrival s new datagram e (inl lacks) = lacks.stands
refused_datagram now arrival s new datagram e (inr it) = refused_brought now arrival s new (brought s datagram) e it

-- a datagram that is refused leaves everything
pub refused_stays : (now arrival : ℕ) (codec : Codec) (left : Option ReceivedAccessUnitValue) (s new : RtpReception) (datagram : List ℕ) (result : Result RtpPushed RtpPushError) →
    IsRtpPush now arrival s datagram result new → OnErr result (rtp_state codec new left ≡ rtp_state codec s left)
refused_stays now arrival codec left s new datagram (Ok pushed) it = tt
refused_stays now arrival codec left s new datagram (Err e) it = ap (λ (r : RtpReception). rtp_state codec r left) (refused_datagram now arrival s new datagram e it)

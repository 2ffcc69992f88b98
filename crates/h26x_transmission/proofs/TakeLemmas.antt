-- Packets, any whatever, taken one by one. The laws that this stands on come as arguments.
use Rattle.std.proofs.Common.{◌≡◌, ℕ, ◌+◌, ◌<◌, ◌≤◌, cond, List, [], ◌∷◌, ◌++◌, length, take, get_or, Option, Some, Result, Ok, Err, IsErr, OnOk, OnErr, All, sym, refl, ap, ◌∙◌, subst, append_assoc}
use Rattle.std.specs.Prelude.{is_ok}
use Rattle.std.specs.Option.{option_map}
use Rattle.std.proofs.lemmas.List.{append-nil, take_all}
use Rattle.std.proofs.lemmas.List.Elements.{All-pop}
use Rattle.std.proofs.lemmas.Grind.{take_at_read}
use Rattle.h26x_core.specs.declared.extra.CodecExtra.{CodecExtra}
use Rattle.h26x_core.specs.declared.error.PacketError.{PacketError}
use Rattle.h26x_core.specs.Front.{IsFrontOf}
use Rattle.h26x_model.specs.Receive.DepacketizerState.{DepacketizerState, Depacketization, after_packets, IsPacketOutcome, accepted_packets, HaveOutcomes, AreAllTaken, depacketization}
use Rattle.h26x_model.specs.Carry.Laws.{DepacketizerGoesOn}
use Rattle.h26x_transmission.proofs.TransmissionLemmas.{still_front, same_work}

-- one packet more, and its outcome
outcomes_more : (w : Depacketization) (before packets : List (List ℕ)) (outcomes : List (Result (Unit {0}) PacketError)) (packet : List ℕ) (outcome : Result (Unit {0}) PacketError) →
    HaveOutcomes w before packets outcomes → IsPacketOutcome (after_packets w (before ++ accepted_packets packets outcomes)) packet outcome →
    HaveOutcomes w before (packets ++ packet ∷ []) (outcomes ++ outcome ∷ [])
outcomes_more w before [] [] packet outcome each here = (subst (λ (x : List (List ℕ)). IsPacketOutcome (after_packets w x) packet outcome) (append-nil before) here, tt)
outcomes_more w before [] (o ∷ outcomes) packet outcome each here = absurd each
outcomes_more w before (p ∷ packets) [] packet outcome each here = absurd each
outcomes_more w before (p ∷ packets) (Ok v ∷ outcomes) packet outcome (first, later) here = (
  first,
  outcomes_more w (before ++ p ∷ []) packets outcomes packet outcome later
      (subst (λ (x : List (List ℕ)). IsPacketOutcome (after_packets w x) packet outcome) (sym (append_assoc before (p ∷ []) (accepted_packets packets outcomes))) here),
)
outcomes_more w before (p ∷ packets) (Err e ∷ outcomes) packet outcome (first, later) here =
    (first, outcomes_more w before packets outcomes packet outcome later here)

-- the accepted ones with it
accepted_more : (w : Depacketization) (before packets : List (List ℕ)) (outcomes : List (Result (Unit {0}) PacketError)) (packet : List ℕ) (outcome : Result (Unit {0}) PacketError) →
    HaveOutcomes w before packets outcomes →
    accepted_packets (packets ++ packet ∷ []) (outcomes ++ outcome ∷ []) ≡ accepted_packets packets outcomes ++ cond (is_ok outcome) (packet ∷ []) []
accepted_more w before [] [] packet (Ok v) each = refl
accepted_more w before [] [] packet (Err e) each = refl
accepted_more w before [] (o ∷ outcomes) packet outcome each = absurd each
accepted_more w before (p ∷ packets) [] packet outcome each = absurd each
accepted_more w before (p ∷ packets) (Ok v ∷ outcomes) packet outcome (first, later) = ap (λ (x : List (List ℕ)). p ∷ x) (accepted_more w (before ++ p ∷ []) packets outcomes packet outcome later)
accepted_more w before (p ∷ packets) (Err e ∷ outcomes) packet outcome (first, later) = accepted_more w before packets outcomes packet outcome later

-- what a packet leaves: it is taken, or all is as it was
pub record IsStep (w : Depacketization) (packet : List ℕ) (outcome : Result (Unit {0}) PacketError) (new : Option Depacketization) : Type 0 where
  pub outcome_is : IsPacketOutcome w packet outcome
  pub taken : OnOk outcome (new ≡ Some (after_packets w (packet ∷ [])))
  pub left : OnErr outcome (new ≡ Some w)

-- a refusal leaves the depacketizer, what was written and what is told
pub left_by_refusal : {D : Type 0} (of : D → Option DepacketizerState) (outcome : Result (Unit {0}) PacketError) (d new : D) (out new_out : List ℕ) (extra new_extra : CodecExtra) (w : Depacketization) →
    OnErr outcome (new ≡ d) → OnErr outcome (new_out ≡ out) → OnErr outcome (new_extra ≡ extra) → option_map (λ r. depacketization r out extra) (of d) ≡ Some w →
    OnErr outcome (option_map (λ r. depacketization r new_out new_extra) (of new) ≡ Some w)
left_by_refusal of (Ok v) d new out new_out extra new_extra w same written told is = same
left_by_refusal of (Err e) d new out new_out extra new_extra w same written told is = same_work (of d) (of new) out new_out extra new_extra (ap of same) written told ∙ is

-- what stands after a packet that is taken or left
stands_after : (w : Depacketization) (before : List (List ℕ)) (packet : List ℕ) (outcome : Result (Unit {0}) PacketError) (new : Option Depacketization) → DepacketizerGoesOn w →
    IsStep (after_packets w before) packet outcome new → new ≡ Some (after_packets w (before ++ cond (is_ok outcome) (packet ∷ []) []))
stands_after w before packet (Ok v) new law step = step.taken ∙ ap Some (law.more before (packet ∷ []))
stands_after w before packet (Err e) new law step = step.left ∙ ap (λ (x : List (List ℕ)). Some (after_packets w x)) (sym (append-nil before))

-- one packet more
pub taken_with : (w : Depacketization) (packets : List (List ℕ)) (i : ℕ) (outcomes : List (Result (Unit {0}) PacketError)) (outcome : Result (Unit {0}) PacketError) (old new : Option Depacketization) →
    DepacketizerGoesOn w → i < length packets → AreAllTaken w (take i packets) outcomes old →
    IsStep (after_packets w (accepted_packets (take i packets) outcomes)) (get_or packets i []) outcome new →
    AreAllTaken w (take (i + 1) packets) (outcomes ++ outcome ∷ []) new
taken_with w packets i outcomes outcome old new law within so_far step =
    let packet = get_or packets i [] in
    let front = take i packets in
    subst (λ (x : List (List ℕ)). AreAllTaken w x (outcomes ++ outcome ∷ []) new) (sym (take_at_read packets i [] within).1) (record {
      each = outcomes_more w [] front outcomes packet outcome so_far.each step.outcome_is;
      taken = stands_after w (accepted_packets front outcomes) packet outcome new law step
          ∙ ap (λ (x : List (List ℕ)). Some (after_packets w x)) (sym (accepted_more w [] front outcomes packet outcome so_far.each));
    })

-- all packets
pub taken_to_end : (w : Depacketization) (packets : List (List ℕ)) (i : ℕ) (outcomes : List (Result (Unit {0}) PacketError)) (new : Option Depacketization) →
    length packets ≤ i → AreAllTaken w (take i packets) outcomes new → AreAllTaken w packets outcomes new
taken_to_end w packets i outcomes new past all = subst (λ (x : List (List ℕ)). AreAllTaken w x outcomes new) (take_all i packets past) all

-- where every outcome is a refusal, one more refusal leaves what the earlier ones left
pub kept_by_refusals : {T E V : Type 0} (outcomes later : List (Result T E)) (outcome : Result T E) (first before after : V) →
    later ≡ outcomes ++ outcome ∷ [] → OnErr outcome (after ≡ before) → (All IsErr outcomes → before ≡ first) → All IsErr later → after ≡ first
kept_by_refusals outcomes later (Ok v) first before after pushed on_err kept all = let bad = (All-pop IsErr later outcomes (Some (Ok v)) pushed all).1 in cc
kept_by_refusals outcomes later (Err e) first before after pushed on_err kept all = on_err ∙ kept (All-pop IsErr later outcomes (Some (Err e)) pushed all).0

-- a front stays one through a call that adds to the list, or leaves it
pub front_through : {T E : Type 0} (outcome : Result T E) (first before after : List ℕ) →
    OnOk outcome (IsFrontOf before after) → OnErr outcome (after ≡ before) → IsFrontOf first before → IsFrontOf first after
front_through (Ok v) first before after on_ok on_err front = still_front first before after front on_ok
front_through (Err x) first before after on_ok on_err front = subst (IsFrontOf first) (sym on_err) front

-- Packets that a receiver takes or passes over were kept.
use Rattle.std.proofs.Common.{◌≡◌, ◌∙◌, ap, sym, subst, refl, ℕ, zero, suc, ◌+◌, ◌≤◌, ◌<◌, Bool, true, false, cond, List, [], ◌∷◌, ◌++◌, length, Option, Some, None, append_assoc, arith, inl, inr, Result, Ok, Err}
use Rattle.std.specs.Prelude.{◌==◌, ◌&&◌, nat_lt, slice_get, MatchBool, if◌then◌else◌}
use Rattle.std.specs.List.{Contains}
use Rattle.h26x_core.specs.Sequence.{distance_ahead, is_late}
use Rattle.h26x_core.specs.declared.error.PacketError.{PacketError}
use Rattle.h26x_model.specs.Receive.DepacketizerState.{DepacketizerState}
use Rattle.h26x_receiver.specs.declared.received.Received.{Received}
use Rattle.h26x_reorder.specs.Rtp.{RtpBody}
use Rattle.h26x_reorder.specs.ReorderBuffer.{BufferState, buffer_state, due_at, put_packet, after_push, without_first_of, begun_at, are_beyond}
use Rattle.h26x_assembler.specs.AccessUnit.{AccessUnitValue}
use Rattle.h26x_access_units.specs.declared.config.AccessUnitConfig.{AccessUnitConfig}
use Rattle.h26x_access_units.specs.declared.pushed.Pushed.{Pushed}
use Rattle.h26x_access_units.specs.declared.pushed.Pushed.TheVariants as pushes
use Rattle.h26x_access_units.specs.Numbers.{bears_nothing}
use Rattle.h26x_access_units.specs.JitterBuffer.{JitterState, fresh_jitter, with_held_limit, may_tell_first, is_pressed, jitter_answer, after_jitter, with_packet, with_two, has_room_for}
use Rattle.h26x_access_units.specs.Reception.{Reception, fresh_reception, begun_reception, has_no_unit, is_one_taken, is_taken_at_once, pushed_to, anew_of, held_with, after_reception, is_behind_missing, IsDueTaken, IsEndedBefore, ended_behind_missing, ended_by_content, bare_passed, without_bare_of, without_bare, IsDrained, none, bare, more, behind, ended_if_anew, ended_if_over, after_finish, without_given_of}
use Rattle.h26x_access_units.specs.Account.{ReceiverCall, PushCall, BackCall, NextCall, LackCall, FinishCall, RestartCall, SettingsCall, BeginCall, IsCall, AreReceiverCalls, no_call, one_call, kept_packets}
use Rattle.h26x_access_units.specs.WholeSent.{told_numbers, since_restart, IsSentAt, IsFrontNumber, CameFromSender}
use Rattle.h26x_access_units.specs.ToldWhole.{Deed, TookPacket, PassedPacket, EndedBefore, EndedStream, ToldFirst, DroppedAll, packet_deed, drained_deeds, stream_deeds, push_deeds, call_deeds, all_deeds, is_stream_new, are_told_first, IsInTime, due_taken, due_passed, AreOfSenderBy, AreOfSender, IsFrontDue, AreOfSenderAtFronts, none_done, took_packet, passed_packet, ended_before_packet, ended_its_stream, told_its_first, dropped_before}
use Rattle.h26x_access_units.proofs.MovesLemmas.{first_is_due}

abbrev Packet : Type 0
Packet = ℕ × RtpBody

abbrev Packets : Type 0
Packets = List (ℕ × RtpBody)

module _ (P : ℕ × RtpBody → Type 0) (Q : ℕ → Type 0) where
  abbrev All : Packets → Type 0
  All [] = Unit {0}
  All (p ∷ packets) = P p × All packets

  abbrev Alone : Option Packet → Type 0
  Alone None = Unit {0}
  Alone (Some p) = P p

  put_all : (due : ℕ) (p : Packet) → P p → (held : Packets) → All held → All (put_packet due p held)
  put_all due p is [] all = (is, tt)
  put_all due p is (q ∷ held) all =
      elim (nat_lt (distance_ahead due p.0) (distance_ahead due q.0)) as (λ b. All (cond b (p ∷ q ∷ held) (cond (p.0 == q.0) (q ∷ held) (q ∷ put_packet due p held)))) [
        | true ↦ (is, all)
        | false ↦ elim (p.0 == q.0) as (λ b. All (cond b (q ∷ held) (q ∷ put_packet due p held))) [
          | true ↦ all
          | false ↦ (all.0, put_all due p is held all.1)
        ]
      ]

  push_all : (b : BufferState RtpBody) (p : Packet) → P p → All b.held → All (after_push b p).held
  push_all b p is all =
      let due = due_at b.window b.due p.0 in
      elim (is_late (Some due) p.0) as (λ l. All (cond l b (buffer_state b.window (Some due) (put_packet due p b.held))).held) [
        | true ↦ all
        | false ↦ put_all due p is b.held all
      ]

  answered_all : (now : ℕ) (j : JitterState) (p : Packet) (answer : Pushed) → P p → All j.buffer.held → All (after_jitter now j p answer).buffer.held
  answered_all now j p pushes.Held is all = push_all j.buffer p is all
  answered_all now j p (pushes.Late n) is all = all
  answered_all now j p pushes.Twice is all = all
  answered_all now j p pushes.Stray is all = all
  answered_all now j p pushes.Anew is all = all
  answered_all now j p pushes.Jumped is all = all
  answered_all now j p pushes.Full is all = all

  two_all : (now : ℕ) (j : JitterState) (p q : Packet) → P p → P q → All j.buffer.held → All (with_two now j p q).buffer.held
  two_all now j p q is_p is_q all = push_all (after_push j.buffer p) q is_q (push_all j.buffer p is_p all)

  held_all : (now : ℕ) (j : JitterState) (stray : Option Packet) (p : Packet) → Alone stray → P p → All j.buffer.held → All (held_with now j stray p).buffer.held
  held_all now j None p alone is all = push_all j.buffer p is all
  held_all now j (Some q) p alone is all =
      elim (has_room_for j q && are_beyond j.buffer q.0 p.0) as (λ b. All (cond b (with_two now j q p) (cond (has_room_for j q && are_beyond j.buffer p.0 q.0) (with_two now j p q) (with_packet now j p))).buffer.held) [
        | true ↦ two_all now j q p alone is all
        | false ↦ elim (has_room_for j q && are_beyond j.buffer p.0 q.0) as (λ b. All (cond b (with_two now j p q) (with_packet now j p)).buffer.held) [
          | true ↦ two_all now j p q is alone all
          | false ↦ push_all j.buffer p is all
        ]
      ]

  anew_all : (now : ℕ) (config : AccessUnitConfig) (stray : Option Packet) (p : Packet) → Alone stray → P p → All (anew_of now config stray p).buffer.held
  anew_all now config None p alone is = answered_all now (fresh_jitter config) p (jitter_answer (fresh_jitter config) p) is tt
  anew_all now config (Some q) p alone is =
      let fresh = fresh_jitter (with_held_limit 18446744073709551615 config) in
      let one = pushed_to now fresh q in
      answered_all now one p (jitter_answer one p) is (answered_all now fresh q (jitter_answer fresh q) alone tt)

  first_all : (window : ℕ) (due : Option ℕ) (held : Packets) (p : Packet) → slice_get held 0 ≡ Some p → All held → P p × All (without_first_of window due held).held
  first_all window due [] p is all = absurd (let bad = is in cc)
  first_all window due (q ∷ held) p is all = let same : q ≡ p = cc in (subst P same all.0, all.1)

  -- what waits
  record Waiting (s : Reception) : Type 0 where
    held : All s.waiting.buffer.held
    alone : Alone s.stray

  -- each packet that was met, and each number that was told, since all was dropped
  abbrev AllMet : List Deed → Type 0
  AllMet [] = Unit {0}
  AllMet (TookPacket p ∷ ds) = P p × AllMet ds
  AllMet (PassedPacket p ∷ ds) = P p × AllMet ds
  AllMet (EndedBefore p ∷ ds) = P p × AllMet ds
  AllMet (ToldFirst number ∷ ds) = Q number × AllMet ds
  AllMet (DroppedAll ∷ ds) = Unit {0}
  AllMet (deed ∷ ds) = AllMet ds

  deed_met : (p : Packet) (answer : Result Received PacketError) (ds : List Deed) → P p → AllMet ds → AllMet (packet_deed p answer ∷ ds)
  deed_met p (Err error) ds is met = (is, met)
  deed_met p (Ok answer) ds is met = elim (is_one_taken p answer) as (λ b. AllMet ((if b then TookPacket p else PassedPacket p) ∷ ds)) [
    | true ↦ (is, met)
    | false ↦ (is, met)
  ]

  due_met : (now : ℕ) (s t : Reception) (it : IsDueTaken now s t) → Waiting s → P it.packet × Waiting t
  due_met now s t it waits =
      let b = s.waiting.buffer in
      let first = first_is_due (is_pressed now s.waiting) b.window b.due b.held it.packet it.due in
      let both = first_all b.window b.due b.held it.packet first waits.held in
      (both.0, subst Waiting (sym it.stands) (record { held = both.1; alone = waits.alone }))

  ended_met : (now : ℕ) (s t : Reception) (it : IsEndedBefore now s t) → Waiting s → P it.packet × Waiting t
  ended_met now s t it waits =
      let b = s.waiting.buffer in
      let first = first_is_due (is_pressed now s.waiting) b.window b.due b.held it.packet it.due in
      let both = first_all b.window b.due b.held it.packet first waits.held in (
        both.0,
        subst Waiting (sym it.stands) (elim (is_behind_missing s.assembler it.packet.0) as (λ c. Waiting (cond c (ended_behind_missing s it.packet) (ended_by_content s))) [
          | true ↦ record { held = waits.held; alone = waits.alone }
          | false ↦ record { held = waits.held; alone = waits.alone }
        ]),
      )

  bare_met_of : (left : List AccessUnitValue) (s : Reception) → Waiting s → Waiting (without_bare_of s left)
  bare_met_of [] s waits = waits
  bare_met_of (u ∷ us) s waits = elim (bears_nothing u.bytes) as (λ c. Waiting (cond c (without_bare_of (bare_passed s u us) us) s)) [
    | true ↦ bare_met_of us (bare_passed s u us) (record { held = waits.held; alone = waits.alone })
    | false ↦ waits
  ]

  bare_met : (s : Reception) → Waiting s → Waiting (without_bare s)
  bare_met s waits = bare_met_of s.assembler.ended s waits

  drained_met : (now : ℕ) (s t : Reception) (ds : List Deed) (it : IsDrained now s t) → AllMet ds → Waiting s → AllMet (drained_deeds it ++ ds) × Waiting t
  drained_met now s t ds none met waits = (met, waits)
  drained_met now s t ds (bare before) met waits = let it = drained_met now s _ ds before met waits in (it.0, bare_met _ it.1)
  drained_met now s t ds (more before empty taken) met waits =
      let it = drained_met now s _ ds before met waits in
      let due = due_met now _ t taken it.1 in
      (deed_met taken.packet taken.answer (drained_deeds before ++ ds) due.0 it.0, due.1)
  drained_met now s t ds (behind before empty ended) met waits =
      let it = drained_met now s _ ds before met waits in
      let due = ended_met now _ t ended it.1 in
      ((due.0, it.0), due.1)

  stream_met : (s : Reception) (ends : Bool) (ds : List Deed) → AllMet ds → AllMet (stream_deeds s ends ++ ds)
  stream_met s ends ds met = elim (has_no_unit s.assembler.ended && ends) as (λ c. AllMet ((if c then EndedStream ∷ [] else []) ++ ds)) [ true ↦ met | false ↦ met ]

  anew_waits : (s : Reception) → Waiting s → Waiting (ended_if_anew s)
  anew_waits s waits = elim (has_no_unit s.assembler.ended && s.is_anew) as (λ c. (has_no_unit s.assembler.ended && s.is_anew) ≡ c → Waiting (ended_if_anew s)) [
    | true ↦ λ e. rw e (record { held = waits.held; alone = waits.alone })
    | false ↦ λ e. rw e waits
  ] refl

  over_waits : (s : Reception) → Waiting s → Waiting (ended_if_over s)
  over_waits s waits = elim (has_no_unit s.assembler.ended && s.waiting.is_over) as (λ c. Waiting (cond c (after_finish s) s)) [
    | true ↦ record { held = tt; alone = tt }
    | false ↦ waits
  ]

  given_waits : (left : List AccessUnitValue) (s : Reception) → Waiting s → Waiting (without_given_of s left)
  given_waits [] s waits = waits
  given_waits (u ∷ us) s waits = record { held = waits.held; alone = waits.alone }

  begun_waits : (number : ℕ) (s : Reception) → Waiting s → Waiting (begun_reception number s)
  begun_waits number s waits = elim (may_tell_first s.waiting) as (λ c. may_tell_first s.waiting ≡ c → Waiting (begun_reception number s)) [
    | true ↦ λ e. rw e (record { held = by s.waiting.buffer.due; alone = waits.alone })
    | false ↦ λ e. rw e waits
  ] refl
    where
      by : (due : Option ℕ) → All (begun_at number (buffer_state s.waiting.buffer.window due s.waiting.buffer.held)).held
      by None = waits.held
      by (Some d) = waits.held

  -- after a call, where those that are kept by it are such
  aside_waits : (now : ℕ) (s : Reception) (p : Packet) (answer : Pushed) (calls : List ReceiverCall) → ((q : Packet) → Contains (kept_packets (since_restart (PushCall now p answer ∷ calls))) q → P q) → Waiting s → Waiting (after_reception now s p answer)
  aside_waits now s p pushes.Held calls each waits = record { held = push_all s.waiting.buffer p (each p (zero, omega arith, refl)) waits.held; alone = waits.alone }
  aside_waits now s p (pushes.Late n) calls each waits = record { held = waits.held; alone = waits.alone }
  aside_waits now s p pushes.Twice calls each waits = record { held = waits.held; alone = waits.alone }
  aside_waits now s p pushes.Full calls each waits = record { held = waits.held; alone = waits.alone }
  aside_waits now s p pushes.Stray calls each waits = record { held = waits.held; alone = each p (zero, omega arith, refl) }
  aside_waits now s p pushes.Jumped calls each waits = record { held = held_all now s.waiting s.stray p waits.alone (each p (zero, omega arith, refl)) waits.held; alone = tt }
  aside_waits now s p pushes.Anew calls each waits = record { held = anew_all now s.waiting.config s.stray p waits.alone (each p (zero, omega arith, refl)); alone = tt }

  push_met : (ds : List Deed) (now : ℕ) (s new : Reception) (c : Bool) (it : MatchBool c (IsDueTaken now s new) (new ≡ s)) → AllMet ds → Waiting s → AllMet (push_deeds now s new c it ++ ds) × Waiting new
  push_met ds now s new true it met waits = let due = due_met now s new it waits in (deed_met it.packet it.answer ds due.0 met, due.1)
  push_met ds now s new false same met waits = (met, subst Waiting (sym same) waits)

  -- so it is of the packets that were kept by calls, and of the numbers that they told
  record Each (calls : List ReceiverCall) : Type 0 where
    packets : (q : Packet) → Contains (kept_packets (since_restart calls)) q → P q
    numbers : (number : ℕ) → Contains (told_numbers (since_restart calls)) number → Q number

  call_met : (ds : List Deed) (calls : List ReceiverCall) (call : ReceiverCall) (s new : Reception) (it : IsCall call s new) → Each (call ∷ calls) → AllMet ds → Waiting s → AllMet (call_deeds call s new it ++ ds) × Waiting new
  call_met ds calls (PushCall now p answer) s new it each met waits = push_met ds now (after_reception now s p answer) new (is_taken_at_once s p) it.3 met (aside_waits now s p answer calls each.packets waits)
  call_met ds calls (BackCall p reason) s new it each met waits = (met, subst Waiting (sym it.1) (record { held = waits.held; alone = waits.alone }))
  call_met ds calls (NextCall now one) s new it each met waits =
      let over = stream_deeds it.drained it.drained.waiting.is_over in
      let drained = drained_deeds it.taken in
      let anew = stream_deeds (without_bare s) (without_bare s).is_anew in
      let same : (over ++ (drained ++ anew)) ++ ds ≡ over ++ (drained ++ (anew ++ ds)) = append_assoc over (drained ++ anew) ds ∙ ap (λ (x : List Deed). over ++ x) (append_assoc drained anew ds) in
      let taken = drained_met now (ended_if_anew (without_bare s)) it.drained (anew ++ ds) it.taken (stream_met (without_bare s) (without_bare s).is_anew ds met) (anew_waits (without_bare s) (bare_met s waits)) in
      let last = without_bare (ended_if_over it.drained) in (
        subst AllMet (sym same) (stream_met it.drained it.drained.waiting.is_over (drained ++ (anew ++ ds)) taken.0),
        subst Waiting (sym it.stands) (given_waits last.assembler.ended last (bare_met (ended_if_over it.drained) (over_waits it.drained taken.1))),
      )
  call_met ds calls (LackCall now) s new (inl same) each met waits = (met, subst Waiting (sym same) (bare_met s waits))
  call_met ds calls (LackCall now) s new (inr taken) each met waits =
      let drained = drained_deeds taken in
      let anew = stream_deeds (without_bare s) (without_bare s).is_anew in
      let it = drained_met now (ended_if_anew (without_bare s)) new (anew ++ ds) taken (stream_met (without_bare s) (without_bare s).is_anew ds met) (anew_waits (without_bare s) (bare_met s waits)) in
      (subst AllMet (sym (append_assoc drained anew ds)) it.0, it.1)
  call_met ds calls FinishCall s new it each met waits = (met, subst Waiting (sym it) (record { held = waits.held; alone = waits.alone }))
  call_met ds calls RestartCall s new it each met waits = (tt, subst Waiting (sym it) (record { held = tt; alone = tt }))
  call_met ds calls (SettingsCall config) s new it each met waits = (met, subst Waiting (sym it) (record { held = waits.held; alone = waits.alone }))
  call_met ds calls (BeginCall number) s new it each met waits = (
    elim (may_tell_first s.waiting) as (λ c. AllMet ((if c then ToldFirst number ∷ [] else []) ++ ds)) [ true ↦ (each.numbers number (zero, omega arith, refl), met) | false ↦ met ],
    subst Waiting (sym it.1) (begun_waits number s waits),
  )

  -- what is known of the calls before
  abbrev Before : List ReceiverCall → List Deed → Reception → Type 0
  Before calls ds s = Each calls → AllMet ds × Waiting s

  calls_met : (config : AccessUnitConfig) (state : DepacketizerState) (calls : List ReceiverCall) (s : Reception) (are : AreReceiverCalls (fresh_reception config state) calls s) → Before calls (all_deeds are) s
  calls_met config state calls s no_call each = (tt, record { held = tt; alone = tt })
  calls_met config state calls s (one_call {call = call} {before = before} {t = t} others it) each = by call it each (calls_met config state before t others)
    where
      ds : List Deed
      ds = all_deeds others

      with_rest : (call : ReceiverCall) (it : IsCall call t s) → Each (call ∷ before) → Each before → Before before ds t → AllMet (call_deeds call t s it ++ ds) × Waiting s
      with_rest call it each rest met = let both = met rest in call_met ds before call t s it each both.0 both.1

      by : (call : ReceiverCall) (it : IsCall call t s) → Each (call ∷ before) → Before before ds t → AllMet (call_deeds call t s it ++ ds) × Waiting s
      by (PushCall now p pushes.Held) it each met = with_rest (PushCall now p pushes.Held) it each (record { packets = λ q (k, within, same). each.packets q (suc k, omega (arith, within), same); numbers = each.numbers }) met
      by (PushCall now p pushes.Stray) it each met = with_rest (PushCall now p pushes.Stray) it each (record { packets = λ q (k, within, same). each.packets q (suc k, omega (arith, within), same); numbers = each.numbers }) met
      by (PushCall now p pushes.Jumped) it each met = with_rest (PushCall now p pushes.Jumped) it each (record { packets = λ q (k, within, same). each.packets q (suc k, omega (arith, within), same); numbers = each.numbers }) met
      by (PushCall now p pushes.Anew) it each met = with_rest (PushCall now p pushes.Anew) it each (record { packets = λ q (k, within, same). each.packets q (suc k, omega (arith, within), same); numbers = each.numbers }) met
      by (PushCall now p (pushes.Late n)) it each met = with_rest (PushCall now p (pushes.Late n)) it each (record { packets = each.packets; numbers = each.numbers }) met
      by (PushCall now p pushes.Twice) it each met = with_rest (PushCall now p pushes.Twice) it each (record { packets = each.packets; numbers = each.numbers }) met
      by (PushCall now p pushes.Full) it each met = with_rest (PushCall now p pushes.Full) it each (record { packets = each.packets; numbers = each.numbers }) met
      by (BackCall p reason) it each met = with_rest (BackCall p reason) it each (record { packets = each.packets; numbers = each.numbers }) met
      by (NextCall now one) it each met = with_rest (NextCall now one) it each (record { packets = each.packets; numbers = each.numbers }) met
      by (LackCall now) it each met = with_rest (LackCall now) it each (record { packets = each.packets; numbers = each.numbers }) met
      by FinishCall it each met = with_rest FinishCall it each (record { packets = each.packets; numbers = each.numbers }) met
      by RestartCall it each met = (tt, subst Waiting (sym it) (record { held = tt; alone = tt }))
      by (SettingsCall config) it each met = with_rest (SettingsCall config) it each (record { packets = each.packets; numbers = each.numbers }) met
      by (BeginCall number) it each met = with_rest (BeginCall number) it each (record { packets = each.packets; numbers = λ m (k, within, is). each.numbers m (suc k, omega (arith, within), is) }) met

both_are : (x y : Bool) → (x && y) ≡ true → (x ≡ true) × (y ≡ true)
both_are true y e = (refl, e)
both_are false y e = absurd (let bad = e in cc)

-- half of the numbers at most, so that each packet comes in time
abbrev IsWithinHalf : Option ℕ → Type 0
IsWithinHalf None = Unit {0}
IsWithinHalf (Some due) = due ≤ 32768

module _ (sent : List RtpBody) (first : ℕ) (few : length sent ≤ 32768) (Known : ℕ → Type 0) (Told : ℕ → Option ℕ → Type 0) (tells : (number : ℕ) → Known number → (due : Option ℕ) × IsWithinHalf due × Told number due) where
  in_time_half : (due : Option ℕ) (at : ℕ) → at < length sent → IsWithinHalf due → IsInTime due at
  in_time_half None at lt half = tt
  in_time_half (Some due) at lt half = (omega (arith, lt, few), omega (arith, half))

  taken_half : (due : Option ℕ) (at : ℕ) → at < length sent → IsWithinHalf due → due_taken due at ≤ 32768
  taken_half None at lt half = omega (arith, lt, few)
  taken_half (Some due) at lt half = elim (nat_lt at due) as (λ c. cond c due (at + 1) ≤ 32768) [ true ↦ half | false ↦ omega (arith, lt, few) ]

  passed_half : (due : Option ℕ) (at : ℕ) → at < length sent → IsWithinHalf due → IsWithinHalf (due_passed due at)
  passed_half None at lt half = tt
  passed_half (Some due) at lt half = taken_half (Some due) at lt half

  abbrev OfSender : List Deed → Type 0
  OfSender ds = (due : Option ℕ) × IsWithinHalf due × AreOfSenderBy Told sent first due ds

  new_none : (due : Option ℕ) (ds : List Deed) → is_stream_new ds ≡ true → AreOfSenderBy Told sent first due ds → AreOfSenderBy Told sent first None ds
  new_none due [] e none_done = none_done
  new_none due (EndedStream ∷ ds) e (ended_its_stream of) = ended_its_stream of
  new_none due (DroppedAll ∷ ds) e (dropped_before before) = dropped_before before
  new_none due (TookPacket p ∷ ds) e of = absurd (let bad = e in cc)
  new_none due (PassedPacket p ∷ ds) e of = absurd (let bad = e in cc)
  new_none due (EndedBefore p ∷ ds) e of = absurd (let bad = e in cc)
  new_none due (ToldFirst number ∷ ds) e of = absurd (let bad = e in cc)

  -- where numbers were told only of streams that begin
  of_sender : (ds : List Deed) → AllMet (IsSentAt sent first) Known ds → are_told_first ds ≡ true → OfSender ds
  of_sender [] met told = (None, tt, none_done)
  of_sender (TookPacket p ∷ ds) met told =
      let (due, half, of) = of_sender ds met.1 told in
      let at = met.0 in
      (Some (due_taken due at.place), taken_half due at.place at.within half, took_packet p at (in_time_half due at.place at.within half) of)
  of_sender (PassedPacket p ∷ ds) met told =
      let (due, half, of) = of_sender ds met.1 told in
      let at = met.0 in
      (due_passed due at.place, passed_half due at.place at.within half, passed_packet p at (in_time_half due at.place at.within half) of)
  of_sender (EndedBefore p ∷ ds) met told =
      let (due, half, of) = of_sender ds met.1 told in
      let at = met.0 in
      (None, tt, ended_before_packet p at (in_time_half due at.place at.within half) of)
  of_sender (ToldFirst number ∷ ds) met told =
      let both = both_are (is_stream_new ds) (are_told_first ds) told in
      let (due, half, of) = of_sender ds met.1 both.1 in
      let (place, near, is_told) = tells number met.0 in
      (place, near, told_its_first number is_told both.0 (new_none due ds both.0 of))
  of_sender (EndedStream ∷ ds) met told = let (due, half, of) = of_sender ds met told in (None, tt, ended_its_stream of)
  of_sender (DroppedAll ∷ ds) met told = (None, tt, dropped_before ds)

-- what is done is of the sender, where numbers are told only of streams that begin
pub done_of_sender : (config : AccessUnitConfig) (state : DepacketizerState) (calls : List ReceiverCall) (s : Reception) (sent : List RtpBody) (first : ℕ) (are : AreReceiverCalls (fresh_reception config state) calls s) →
    CameFromSender (told_numbers (since_restart calls)) (kept_packets (since_restart calls)) state sent first → are_told_first (all_deeds are) ≡ true → (due : Option ℕ) × AreOfSender sent first due (all_deeds are)
done_of_sender config state calls s sent first are came told =
    let met = calls_met (IsSentAt sent first) (λ number. Unit {0}) config state calls s are (record { packets = came.packets; numbers = λ number is. tt }) in
    let (due, half, of) = of_sender sent first came.few (λ number. Unit {0}) (λ number place. place ≡ None) (λ number is. (None, tt, refl)) (all_deeds are) met.0 told in
    (due, of)

-- and each number that is told is due, and that of a front
pub done_at_fronts : (config : AccessUnitConfig) (state : DepacketizerState) (calls : List ReceiverCall) (s : Reception) (sent : List RtpBody) (first : ℕ) (are : AreReceiverCalls (fresh_reception config state) calls s) →
    CameFromSender (told_numbers (since_restart calls)) (kept_packets (since_restart calls)) state sent first → are_told_first (all_deeds are) ≡ true → (due : Option ℕ) × AreOfSenderAtFronts sent first due (all_deeds are)
done_at_fronts config state calls s sent first are came told =
    let few = came.few in
    let met = calls_met (IsSentAt sent first) (IsFrontNumber sent first) config state calls s are (record { packets = came.packets; numbers = came.fronts }) in
    let (due, half, of) = of_sender sent first came.few (IsFrontNumber sent first) (IsFrontDue sent first) (λ number front. let within = front.within in (Some front.place, omega (arith, within, few), record { front = front; due_is = refl })) (all_deeds are) met.0 told in
    (due, of)

-- What a receiver does since it was restarted it does as a new one.
use Rattle.std.proofs.Common.{◌≡◌, sym, subst, refl, ℕ, true, List, [], ◌∷◌, Option, Some}
use Rattle.h26x_model.specs.Carry.Laws.{DepacketizerGoesOn}
use Rattle.h26x_model.specs.Receive.DepacketizerState.{DepacketizerState}
use Rattle.h26x_model.specs.Receive.RunLimit.{state_with_run}
use Rattle.h26x_reorder.specs.Rtp.{RtpBody}
use Rattle.h26x_access_units.specs.declared.config.AccessUnitConfig.{AccessUnitConfig}
use Rattle.h26x_access_units.specs.declared.counts.Counts.{Counts}
use Rattle.h26x_access_units.specs.Counts.{no_counts}
use Rattle.h26x_access_units.specs.ReceivedAccessUnit.{ReceivedAccessUnitValue}
use Rattle.h26x_access_units.specs.Reception.{Reception, fresh_reception}
use Rattle.h26x_access_units.specs.Account.{ReceiverCall, PushCall, BackCall, NextCall, LackCall, FinishCall, RestartCall, SettingsCall, BeginCall, IsCall, AreReceiverCalls, no_call, one_call, kept_packets}
use Rattle.h26x_access_units.specs.WholeSent.{told_numbers, since_restart, nothing_written, CameFromSender, WasSent}
use Rattle.h26x_access_units.proofs.AccountLemmas.{as_new, begun_told_whole, calls_kind}
use Rattle.h26x_access_units.proofs.SentLemmas.{told_was_sent}

module _ (state : DepacketizerState) where
  -- these calls were made since a receiver was as a new one, but for its counts and limits
  record Begun (calls : List ReceiverCall) (s : Reception) : Type 0 where
    config : AccessUnitConfig
    counts : Counts
    run : ℕ
    unit : ℕ
    now : DepacketizerState
    kind : now ≡ state_with_run state now.run
    are : AreReceiverCalls (as_new now config counts run unit) calls s

  one_more : (call : ReceiverCall) (calls : List ReceiverCall) (t s : Reception) → IsCall call t s → Begun calls t → Begun (call ∷ calls) s
  one_more call calls t s it begun = record { config = begun.config; counts = begun.counts; run = begun.run; unit = begun.unit; now = begun.now; kind = begun.kind; are = one_call begun.are it }

  since_begun : (config : AccessUnitConfig) (calls : List ReceiverCall) (s : Reception) → AreReceiverCalls (fresh_reception config state) calls s → Begun (since_restart calls) s
  since_begun config calls s no_call = record { config = config; counts = no_counts; run = config.run_limit; unit = config.unit_limit; now = state; kind = refl; are = no_call }
  since_begun config calls s (one_call {call = call} {before = before} {t = t} others it) = by call it (since_begun config before t others)
    where
      by : (call : ReceiverCall) → IsCall call t s → Begun (since_restart before) t → Begun (since_restart (call ∷ before)) s
      by (PushCall now p answer) it begun = one_more (PushCall now p answer) (since_restart before) t s it begun
      by (BackCall p reason) it begun = one_more (BackCall p reason) (since_restart before) t s it begun
      by (NextCall now one) it begun = one_more (NextCall now one) (since_restart before) t s it begun
      by (LackCall now) it begun = one_more (LackCall now) (since_restart before) t s it begun
      by FinishCall it begun = one_more FinishCall (since_restart before) t s it begun
      by (SettingsCall c) it begun = one_more (SettingsCall c) (since_restart before) t s it begun
      by (BeginCall number) it begun = one_more (BeginCall number) (since_restart before) t s it begun
      by RestartCall it begun = subst (Begun []) (sym it) (record {
        config = t.waiting.config;
        counts = t.counts;
        run = t.run_limit;
        unit = t.unit_limit;
        now = t.assembler.state;
        kind = calls_kind state config before t others;
        are = no_call;
      })

  -- which depacketizer of the kind works matters to none of these
  came_to : (run : Option (List ℕ)) (told : List ℕ) (kept : List (ℕ × RtpBody)) (sent : List RtpBody) (first : ℕ) → CameFromSender told kept state sent first → CameFromSender told kept (state_with_run state run) sent first
  came_to run told kept sent first it = record {
    sender = record { texts = it.sender.texts; marked = it.sender.marked; begins = it.sender.begins; fronts = it.sender.fronts };
    few = it.few;
    packets = it.packets;
    fronts = it.fronts;
  }

  was_sent : (run : Option (List ℕ)) (sent : List RtpBody) (first : ℕ) (unit : ReceivedAccessUnitValue) → WasSent (state_with_run state run) sent first unit → WasSent state sent first unit
  was_sent run sent first unit it = record {
    place = it.place;
    count = it.count;
    some = it.some;
    within = it.within;
    first_is = it.first_is;
    stamps = it.stamps;
    front = it.front;
    back = it.back;
    written = record { bytes = it.written.bytes; extra = it.written.extra };
  }

-- what is told whole was sent, where all that came since the last restart is of its sender
pub told_whole_sent : (config : AccessUnitConfig) (state : DepacketizerState) (now : ℕ) (unit : ReceivedAccessUnitValue) (calls : List ReceiverCall) (s : Reception) (sent : List RtpBody) (first : ℕ) → DepacketizerGoesOn (nothing_written state) →
    AreReceiverCalls (fresh_reception config state) (NextCall now (Some unit) ∷ calls) s → CameFromSender (told_numbers (since_restart calls)) (kept_packets (since_restart calls)) state sent first → unit.is_whole ≡ true → WasSent state sent first unit
told_whole_sent config state now unit calls s sent first goes are came whole =
    let begun = since_begun state config (NextCall now (Some unit) ∷ calls) s are in
    let r = begun.now in
    let kept = kept_packets (since_restart calls) in
    let told = told_numbers (since_restart calls) in
    let came_now = subst (λ (x : DepacketizerState). CameFromSender told kept x sent first) (sym begun.kind) (came_to state r.run told kept sent first came) in
    let goes_now = subst (λ (x : DepacketizerState). DepacketizerGoesOn (nothing_written x)) (sym begun.kind) goes in
    let sent_now = told_was_sent r (NextCall now (Some unit) ∷ since_restart calls) s sent first unit goes_now came_now
    (begun_told_whole r begun.config begun.counts begun.run begun.unit now unit (since_restart calls) s begun.are whole) in
    was_sent state r.run sent first unit (subst (λ (x : DepacketizerState). WasSent x sent first unit) begun.kind sent_now)

-- What a receiver holds stays within its limits.
use Rattle.std.proofs.Common.{◌≡◌, ◌∙◌, ap, sym, subst, refl, ℕ, ◌+◌, ◌≤◌, Bool, true, false, cond, List, [], ◌∷◌, length, Option, Some, None, Result, Ok, Err, arith, inl, inr}
use Rattle.std.specs.Prelude.{◌==◌, ◌||◌, ◌&&◌, nat_lt, nat_le, max, IfOk, IfErr, OnOk, OnErr, MatchBool}
use Rattle.std.specs.Option.{option_map}
use Rattle.std.proofs.lemmas.Bool.Decides.{nat_tests}
use Rattle.h26x_core.specs.declared.error.PacketError.{PacketError}
use Rattle.h26x_model.specs.Receive.DepacketizerState.{DepacketizerState}
use Rattle.h26x_model.specs.Receive.RunLimit.{run_len, run_within}
use Rattle.h26x_receiver.specs.declared.received.Received.{Received}
use Rattle.h26x_receiver.specs.declared.received.Received.TheVariants as received
use Rattle.h26x_core.specs.Sequence.{distance_ahead, is_late}
use Rattle.h26x_receiver.specs.Sequenced.{is_run_kept, after_sequenced_packet}
use Rattle.h26x_reorder.specs.Rtp.{RtpBody}
use Rattle.h26x_reorder.specs.ReorderBuffer.{BufferState, due_at, put_packet, push_answer, after_push, are_beyond, without_first_of}
use Rattle.h26x_reorder.specs.declared.pushed.Pushed as buffers
use Rattle.h26x_reorder.specs.declared.pushed.Pushed.TheVariants as buffered
use Rattle.h26x_assembler.specs.AccessUnit.{AccessUnitValue, Assembly, unit_len, unit_within, whole_if, taken_by, after_rtp, after_taken_rtp, after_unit_skip, behind_missing, after_pass_over, after_ending}
use Rattle.h26x_access_units.specs.declared.config.AccessUnitConfig.{AccessUnitConfig}
use Rattle.h26x_access_units.specs.declared.pushed.Pushed.{Pushed}
use Rattle.h26x_access_units.specs.declared.pushed.Pushed.TheVariants as pushes
use Rattle.h26x_access_units.specs.declared.pushed.NotPushed.{NotPushed}
use Rattle.h26x_access_units.specs.declared.way.Way.{Way}
use Rattle.h26x_access_units.specs.declared.way.Way.TheVariants as ways
use Rattle.h26x_access_units.specs.Numbers.{bears_nothing}
use Rattle.h26x_access_units.specs.JitterBuffer.{JitterState, held_bytes, is_full, has_room_for, jitter_answer, after_jitter, with_packet, with_two, with_held_limit, fresh_jitter}
use Rattle.h26x_access_units.specs.Pushed.{as_pushed}
use Rattle.h26x_access_units.specs.Reception.{Reception, is_near_stray, far_answer, ahead_answer, way_of, answer_on, held_with, reception_answer, after_reception, refused_reception, is_behind_stray, pushed_to, anew_of, assembly_after, is_no_unit, after_no_unit, ends_with, is_taken_at_once, IsDueTaken, IsEndedBefore, is_behind_missing, ended_behind_missing, ended_by_content, begun_for, believed_packet, IsPushed, IsDrained, none, bare, more, behind, bare_passed, without_bare, without_bare_of, ended_if_anew, IsDrainedInPart, ended_if_over, has_no_unit, without_given, without_given_of, fresh_reception, IsNext}
use Rattle.h26x_access_units.specs.ReceivedAccessUnit.{ReceivedAccessUnitValue}
use Rattle.h26x_access_units.specs.Limits.{stray_len, IsWithinLimits, StaysWithinLimits}

-- a packet adds no more than its bytes
put_adds : (due : ℕ) (p : ℕ × RtpBody) (held : List (ℕ × RtpBody)) → held_bytes (put_packet due p held) ≤ held_bytes held + length p.1.payload
put_adds due p [] = omega arith
put_adds due p (q ∷ held) =
    let rest = put_adds due p held in
    elim (nat_lt (distance_ahead due p.0) (distance_ahead due q.0)) as (λ b. nat_lt (distance_ahead due p.0) (distance_ahead due q.0) ≡ b → held_bytes (put_packet due p (q ∷ held)) ≤ held_bytes (q ∷ held) + length p.1.payload) [
      | true ↦ λ e. rw e (omega arith)
      | false ↦ λ e. elim (p.0 == q.0) as (λ b. (p.0 == q.0) ≡ b → held_bytes (put_packet due p (q ∷ held)) ≤ held_bytes (q ∷ held) + length p.1.payload) [
        | true ↦ λ s. rw (e, s) (omega arith)
        | false ↦ λ s. rw (e, s) (omega (arith, rest))
      ] refl
    ] refl

push_adds : (b : BufferState RtpBody) (p : ℕ × RtpBody) → held_bytes (after_push b p).held ≤ held_bytes b.held + length p.1.payload
push_adds b p =
    let due = due_at b.window b.due p.0 in
    elim (is_late (Some due) p.0) as (λ l. is_late (Some due) p.0 ≡ l → held_bytes (after_push b p).held ≤ held_bytes b.held + length p.1.payload) [
      | true ↦ λ e. rw e (omega arith)
      | false ↦ λ e. rw e (put_adds due p b.held)
    ] refl

answered_adds : (now : ℕ) (j : JitterState) (p : ℕ × RtpBody) (answer : Pushed) → held_bytes (after_jitter now j p answer).buffer.held ≤ held_bytes j.buffer.held + length p.1.payload
answered_adds now j p pushes.Held = push_adds j.buffer p
answered_adds now j p (pushes.Late n) = omega arith
answered_adds now j p pushes.Twice = omega arith
answered_adds now j p pushes.Stray = omega arith
answered_adds now j p pushes.Anew = omega arith
answered_adds now j p pushes.Jumped = omega arith
answered_adds now j p pushes.Full = omega arith

pub config_stays : (now : ℕ) (j : JitterState) (p : ℕ × RtpBody) (answer : Pushed) → (after_jitter now j p answer).config ≡ j.config
config_stays now j p pushes.Held = refl
config_stays now j p (pushes.Late n) = refl
config_stays now j p pushes.Twice = refl
config_stays now j p pushes.Stray = refl
config_stays now j p pushes.Anew = refl
config_stays now j p pushes.Jumped = refl
config_stays now j p pushes.Full = refl

not_past : (j : JitterState) (p : ℕ × RtpBody) → is_full j (length p.1.payload) ≡ false → held_bytes j.buffer.held ≤ j.config.held_limit
not_past j p e = elim (nat_lt j.config.held_limit (held_bytes j.buffer.held)) as (λ t. nat_lt j.config.held_limit (held_bytes j.buffer.held) ≡ t → (t || nat_le 18446744073709551616 (held_bytes j.buffer.held + length p.1.payload)) ≡ false → held_bytes j.buffer.held ≤ j.config.held_limit) [
  | true ↦ λ t f. absurd (let bad = f in cc)
  | false ↦ λ t f. grind (arith, nat_tests)
] refl e

-- a packet waits only where what waits is within the limit
waits_within : (now : ℕ) (j : JitterState) (p : ℕ × RtpBody) (most : ℕ) → length p.1.payload ≤ most → held_bytes j.buffer.held ≤ max j.config.held_limit most + most →
    held_bytes (after_jitter now j p (jitter_answer j p)).buffer.held ≤ max j.config.held_limit most + most
waits_within now j p most len within =
    elim (is_full j (length p.1.payload)) as (λ f. is_full j (length p.1.payload) ≡ f → held_bytes (after_jitter now j p (jitter_answer j p)).buffer.held ≤ max j.config.held_limit most + most) [
      | true ↦ λ e. rw e within
      | false ↦ λ e.
          let limit : held_bytes j.buffer.held ≤ j.config.held_limit = not_past j p e in
          let adds = answered_adds now j p (jitter_answer j p) in
          omega (arith, limit, adds, len)
    ] refl

-- of a stream that begins anew no more than two packets wait
anew_adds : (now : ℕ) (config : AccessUnitConfig) (stray : Option (ℕ × RtpBody)) (p : ℕ × RtpBody) → held_bytes (anew_of now config stray p).buffer.held ≤ stray_len stray + length p.1.payload
anew_adds now config None p = answered_adds now (fresh_jitter config) p (jitter_answer (fresh_jitter config) p)
anew_adds now config (Some stray) p =
    let fresh = fresh_jitter (with_held_limit 18446744073709551615 config) in
    let one = answered_adds now fresh stray (jitter_answer fresh stray) in
    let first = pushed_to now fresh stray in
    let two = answered_adds now first p (jitter_answer first p) in
    omega (arith, one, two)

pub anew_config : (now : ℕ) (config : AccessUnitConfig) (stray : Option (ℕ × RtpBody)) (p : ℕ × RtpBody) → (anew_of now config stray p).config ≡ config
anew_config now config None p = config_stays now (fresh_jitter config) p (jitter_answer (fresh_jitter config) p)
anew_config now config (Some stray) p = refl

-- a packet that comes
answer_within : (now : ℕ) (s : Reception) (p : ℕ × RtpBody) (most : ℕ) → length p.1.payload ≤ most → IsWithinLimits most s →
    IsWithinLimits most (after_reception now s p pushes.Anew)
answer_within now s p most len is = record {
  waiting =
      let adds = anew_adds now s.waiting.config s.stray p in
      let same = ap (λ (c : AccessUnitConfig). c.held_limit) (anew_config now s.waiting.config s.stray p) in
      let alone = is.stray in
      omega (arith, adds, alone, len, same);
  stray = omega arith;
  run = is.run;
  unit = is.unit;
}

held_within : (now : ℕ) (s : Reception) (p : ℕ × RtpBody) (most : ℕ) (answer : Pushed) → IsWithinLimits most s →
    held_bytes (after_jitter now s.waiting p answer).buffer.held ≤ max s.waiting.config.held_limit most + most →
    (answer ≡ pushes.Stray → ⊥) → (answer ≡ pushes.Anew → ⊥) → (answer ≡ pushes.Jumped → ⊥) → IsWithinLimits most (after_reception now s p answer)
held_within now s p most pushes.Held is bytes stray anew jumped = record { waiting = bytes; stray = is.stray; run = is.run; unit = is.unit }
held_within now s p most (pushes.Late n) is bytes stray anew jumped = record { waiting = bytes; stray = is.stray; run = is.run; unit = is.unit }
held_within now s p most pushes.Twice is bytes stray anew jumped = record { waiting = bytes; stray = is.stray; run = is.run; unit = is.unit }
held_within now s p most pushes.Full is bytes stray anew jumped = record { waiting = bytes; stray = is.stray; run = is.run; unit = is.unit }
held_within now s p most pushes.Stray is bytes stray anew jumped = absurd (stray refl)
held_within now s p most pushes.Anew is bytes stray anew jumped = absurd (anew refl)
held_within now s p most pushes.Jumped is bytes stray anew jumped = absurd (jumped refl)

not_stray : (j : JitterState) (p : ℕ × RtpBody) → jitter_answer j p ≡ pushes.Stray → ⊥
not_stray j p = by (is_full j (length p.1.payload)) (push_answer j.buffer p.0)
  where
    by : (f : Bool) (answer : buffers.Pushed) → cond f pushes.Full (as_pushed answer) ≡ pushes.Stray → ⊥
    by true answer e = absurd (let bad = e in cc)
    by false buffered.Held e = absurd (let bad = e in cc)
    by false (buffered.Late n) e = absurd (let bad = e in cc)
    by false buffered.Twice e = absurd (let bad = e in cc)

not_anew : (j : JitterState) (p : ℕ × RtpBody) → jitter_answer j p ≡ pushes.Anew → ⊥
not_anew j p = by (is_full j (length p.1.payload)) (push_answer j.buffer p.0)
  where
    by : (f : Bool) (answer : buffers.Pushed) → cond f pushes.Full (as_pushed answer) ≡ pushes.Anew → ⊥
    by true answer e = absurd (let bad = e in cc)
    by false buffered.Held e = absurd (let bad = e in cc)
    by false (buffered.Late n) e = absurd (let bad = e in cc)
    by false buffered.Twice e = absurd (let bad = e in cc)

not_jumped : (j : JitterState) (p : ℕ × RtpBody) → jitter_answer j p ≡ pushes.Jumped → ⊥
not_jumped j p = by (is_full j (length p.1.payload)) (push_answer j.buffer p.0)
  where
    by : (f : Bool) (answer : buffers.Pushed) → cond f pushes.Full (as_pushed answer) ≡ pushes.Jumped → ⊥
    by true answer e = absurd (let bad = e in cc)
    by false buffered.Held e = absurd (let bad = e in cc)
    by false (buffered.Late n) e = absurd (let bad = e in cc)
    by false buffered.Twice e = absurd (let bad = e in cc)

-- where both wait that came more than a window ahead
two_add : (now : ℕ) (j : JitterState) (p q : ℕ × RtpBody) → held_bytes (with_two now j p q).buffer.held ≤ held_bytes j.buffer.held + length p.1.payload + length q.1.payload
two_add now j p q =
    let one = push_adds j.buffer p in
    let two = push_adds (with_packet now j p).buffer q in
    omega (arith, one, two)

none_held : (held : List (ℕ × RtpBody)) → (length held == 0) ≡ true → held_bytes held ≡ 0
none_held [] e = refl
none_held (p ∷ held) e = absurd (let bad : length held + 1 ≡ 0 = grind (arith, nat_tests) in omega (arith, bad))

room_is : (j : JitterState) (stray : ℕ × RtpBody) (most : ℕ) → length stray.1.payload ≤ most → has_room_for j stray ≡ true → held_bytes j.buffer.held + length stray.1.payload ≤ max j.config.held_limit most
room_is j stray most len room =
    elim (length j.buffer.held == 0) as (λ n. (length j.buffer.held == 0) ≡ n → (n || nat_le (held_bytes j.buffer.held + length stray.1.payload) j.config.held_limit) ≡ true → held_bytes j.buffer.held + length stray.1.payload ≤ max j.config.held_limit most) [
      | true ↦ λ e r. let none = none_held j.buffer.held e in omega (arith, none, len)
      | false ↦ λ e r. let fits : held_bytes j.buffer.held + length stray.1.payload ≤ j.config.held_limit = grind (arith, nat_tests) in omega (arith, fits)
    ] refl room

joined_within : (now : ℕ) (j : JitterState) (stray : Option (ℕ × RtpBody)) (p : ℕ × RtpBody) (most : ℕ) → length p.1.payload ≤ most → stray_len stray ≤ most → held_bytes j.buffer.held ≤ j.config.held_limit →
    held_bytes (held_with now j stray p).buffer.held ≤ max j.config.held_limit most + most
joined_within now j None p most len alone limit = let adds = push_adds j.buffer p in omega (arith, adds, len, limit)
joined_within now j (Some stray) p most len alone limit =
    let adds = push_adds j.buffer p in
    let first = two_add now j stray p in
    let second = two_add now j p stray in
    elim (has_room_for j stray) as (λ r. has_room_for j stray ≡ r →
    held_bytes (cond (r && are_beyond j.buffer stray.0 p.0) (with_two now j stray p) (cond (r && are_beyond j.buffer p.0 stray.0) (with_two now j p stray) (with_packet now j p))).buffer.held ≤ max j.config.held_limit most + most) [
      | true ↦ λ e.
          let room = room_is j stray most alone e in
          elim (are_beyond j.buffer stray.0 p.0) as (λ a. held_bytes (cond a (with_two now j stray p) (cond (are_beyond j.buffer p.0 stray.0) (with_two now j p stray) (with_packet now j p))).buffer.held ≤ max j.config.held_limit most + most) [
            | true ↦ omega (arith, room, first, len)
            | false ↦ elim (are_beyond j.buffer p.0 stray.0) as (λ a. held_bytes (cond a (with_two now j p stray) (with_packet now j p)).buffer.held ≤ max j.config.held_limit most + most) [
              | true ↦ omega (arith, room, second, len)
              | false ↦ omega (arith, adds, len, limit)
            ]
          ]
      | false ↦ λ e. omega (arith, adds, len, limit)
    ] refl

pub joined_config : (now : ℕ) (j : JitterState) (stray : Option (ℕ × RtpBody)) (p : ℕ × RtpBody) → (held_with now j stray p).config ≡ j.config
joined_config now j None p = refl
joined_config now j (Some stray) p =
    elim (has_room_for j stray && are_beyond j.buffer stray.0 p.0) as (λ a. (cond a (with_two now j stray p) (cond (has_room_for j stray && are_beyond j.buffer p.0 stray.0) (with_two now j p stray) (with_packet now j p))).config ≡ j.config) [
      | true ↦ refl
      | false ↦ elim (has_room_for j stray && are_beyond j.buffer p.0 stray.0) as (λ a. (cond a (with_two now j p stray) (with_packet now j p)).config ≡ j.config) [ true ↦ refl | false ↦ refl ]
    ]

jumped_within : (now : ℕ) (s : Reception) (p : ℕ × RtpBody) (most : ℕ) → length p.1.payload ≤ most → IsWithinLimits most s → is_full s.waiting (length p.1.payload) ≡ false →
    IsWithinLimits most (after_reception now s p pushes.Jumped)
jumped_within now s p most len is room = record {
  waiting =
      let within = joined_within now s.waiting s.stray p most len is.stray (not_past s.waiting p room) in
      let same = ap (λ (c : AccessUnitConfig). c.held_limit) (joined_config now s.waiting s.stray p) in
      omega (arith, within, same);
  stray = omega arith;
  run = is.run;
  unit = is.unit;
}

-- so of each answer
alone_within : (now : ℕ) (s : Reception) (p : ℕ × RtpBody) (most : ℕ) → length p.1.payload ≤ most → IsWithinLimits most s → IsWithinLimits most (after_reception now s p pushes.Stray)
alone_within now s p most len is = record { waiting = is.waiting; stray = len; run = is.run; unit = is.unit }

stays_within : (now : ℕ) (s : Reception) (p : ℕ × RtpBody) (most : ℕ) → IsWithinLimits most s → IsWithinLimits most (after_reception now s p pushes.Twice)
stays_within now s p most is = record { waiting = is.waiting; stray = is.stray; run = is.run; unit = is.unit }

ahead_within : (now : ℕ) (s : Reception) (p : ℕ × RtpBody) (most : ℕ) → length p.1.payload ≤ most → IsWithinLimits most s → IsWithinLimits most (after_reception now s p (ahead_answer s p))
ahead_within now s p most len is =
    elim (is_near_stray s.waiting.buffer.window s.stray p.0) as (λ n. IsWithinLimits most (after_reception now s p (cond n (cond (is_full s.waiting (length p.1.payload)) pushes.Full pushes.Jumped) pushes.Stray))) [
      | true ↦ elim (is_full s.waiting (length p.1.payload)) as (λ f. is_full s.waiting (length p.1.payload) ≡ f → IsWithinLimits most (after_reception now s p (cond f pushes.Full pushes.Jumped))) [
        | true ↦ λ e. record { waiting = is.waiting; stray = is.stray; run = is.run; unit = is.unit }
        | false ↦ λ e. jumped_within now s p most len is e
      ] refl
      | false ↦ alone_within now s p most len is
    ]

far_answer_within : (now : ℕ) (s : Reception) (p : ℕ × RtpBody) (most : ℕ) → length p.1.payload ≤ most → IsWithinLimits most s → IsWithinLimits most (after_reception now s p (far_answer s p))
far_answer_within now s p most len is =
    elim (is_behind_stray s.stray p.0) as (λ b. IsWithinLimits most (after_reception now s p (cond b pushes.Anew pushes.Stray))) [
      | true ↦ answer_within now s p most len is
      | false ↦ alone_within now s p most len is
    ]

pub push_within : (most now : ℕ) (s : Reception) (p : ℕ × RtpBody) → length p.1.payload ≤ most → IsWithinLimits most s → IsWithinLimits most (after_reception now s p (reception_answer s p))
push_within most now s p len is = by (way_of s p.0)
  where
    by : (way : Way) → IsWithinLimits most (after_reception now s p (answer_on way s p))
    by ways.Repeat = stays_within now s p most is
    by ways.Far = far_answer_within now s p most len is
    by ways.Ahead = ahead_within now s p most len is
    by ways.Window = held_within now s p most (jitter_answer s.waiting p) is (waits_within now s.waiting p most len is.waiting) (not_stray s.waiting p) (not_anew s.waiting p) (not_jumped s.waiting p)

-- a run is given up past its limit, and the text of an access unit past its own
run_is_within : (most : ℕ) (run : Option (List ℕ)) → run_len (run_within most run) ≤ most
run_is_within most None = omega arith
run_is_within most (Some run) = elim (nat_lt most (length run)) as (λ b. nat_lt most (length run) ≡ b → run_len (cond b None (Some run)) ≤ most) [
  | true ↦ λ e. omega arith
  | false ↦ λ e. grind (arith, nat_tests)
] refl

text_is_within : (limit : ℕ) (unit : Option AccessUnitValue) → unit_len (unit_within limit unit) ≤ limit
text_is_within limit None = omega arith
text_is_within limit (Some unit) = elim (nat_lt limit (length unit.bytes)) as (λ b. nat_lt limit (length unit.bytes) ≡ b → unit_len (unit_within limit (Some unit)) ≤ limit) [
  | true ↦ λ e. rw e (omega arith)
  | false ↦ λ e. rw e (grind (arith, nat_tests))
] refl

-- a receiver of access units within these limits
record AreWithin (most limit : ℕ) (s : Assembly) : Type 0 where
  run : run_len s.state.run ≤ most
  unit : unit_len s.unit ≤ limit

taken_within : (most limit : ℕ) (s : Assembly) (p : ℕ × RtpBody) → AreWithin most limit (record (after_taken_rtp most s p) { unit = unit_within limit (after_taken_rtp most s p).unit })
taken_within most limit s p = record {
  run = run_is_within most (after_sequenced_packet (taken_by s p.1.timestamp) p.0 p.1.payload).state.run;
  unit = text_is_within limit (after_taken_rtp most s p).unit;
}

answered_within : (most limit : ℕ) (s : Assembly) (p : ℕ × RtpBody) (answer : Result Received PacketError) → AreWithin most limit s → AreWithin most limit (after_rtp most limit s p answer)
answered_within most limit s p (Ok (received.Late n)) is = is
answered_within most limit s p (Ok received.InOrder) is = taken_within most limit s p
answered_within most limit s p (Ok (received.Gap n)) is = taken_within most limit s p
answered_within most limit s p (Ok (received.TooLong n)) is = taken_within most limit s p
answered_within most limit s p (Err error) is = is

same_len : (unit : Option AccessUnitValue) → unit_len (option_map (whole_if false) unit) ≡ unit_len unit
same_len None = refl
same_len (Some unit) = refl

behind_within : (most limit : ℕ) (s : Assembly) (number : ℕ) → AreWithin most limit s → AreWithin most limit (behind_missing s number)
behind_within most limit s number is = record { run = omega arith; unit = let same = same_len s.unit in let at = is.unit in omega (arith, same, at) }

skipped_within : (most limit : ℕ) (s : Assembly) (number : ℕ) → AreWithin most limit s → AreWithin most limit (after_unit_skip s number)
skipped_within most limit s number is = elim (is_run_kept s.expected number) as (λ b. is_run_kept s.expected number ≡ b → AreWithin most limit (after_unit_skip s number)) [
  | true ↦ λ e. rw e (record { run = is.run; unit = is.unit })
  | false ↦ λ e. rw e (behind_within most limit s number is)
] refl

passed_over_within : (most limit : ℕ) (s : Assembly) (number : ℕ) → AreWithin most limit s → AreWithin most limit (after_pass_over s number)
passed_over_within most limit s number is = elim (is_late s.expected number) as (λ b. AreWithin most limit (cond b s (behind_missing s number))) [
  | true ↦ is
  | false ↦ behind_within most limit s number is
]

assembly_within : (most limit : ℕ) (s : Assembly) (p : ℕ × RtpBody) (answer : Result Received PacketError) → AreWithin most limit s → AreWithin most limit (assembly_after most limit s p answer)
assembly_within most limit s p (Ok answer) is = elim (bears_nothing p.1.payload) as (λ b. AreWithin most limit (cond b (after_unit_skip s p.0) (after_rtp most limit s p (Ok answer)))) [
  | true ↦ skipped_within most limit s p.0 is
  | false ↦ answered_within most limit s p (Ok answer) is
]
assembly_within most limit s p (Err error) is = elim (is_no_unit s error p.1.payload) as (λ b. AreWithin most limit (cond b (after_no_unit s p) (after_pass_over s p.0))) [
  | true ↦ skipped_within most limit (cond (ends_with s p) (after_ending s) s) p.0 (elim (ends_with s p) as (λ b. AreWithin most limit (cond b (after_ending s) s)) [
    | true ↦ record { run = omega arith; unit = omega arith }
    | false ↦ is
  ])
  | false ↦ passed_over_within most limit s p.0 is
]

-- a packet that goes takes its bytes with it
goes_bytes : (window : ℕ) (due : Option ℕ) (held : List (ℕ × RtpBody)) → held_bytes (without_first_of window due held).held ≤ held_bytes held
goes_bytes window due [] = omega arith
goes_bytes window due (p ∷ held) = omega arith

due_within : (most now : ℕ) (s t : Reception) → IsDueTaken now s t → IsWithinLimits most s → IsWithinLimits most t
due_within most now s t it is =
    let assembler = assembly_within s.run_limit s.unit_limit (begun_for s.assembler it.packet) (believed_packet s it.packet) it.answer (record { run = is.run; unit = is.unit }) in
    let less = goes_bytes s.waiting.buffer.window s.waiting.buffer.due s.waiting.buffer.held in
    let at = is.waiting in
    subst (IsWithinLimits most) (sym it.stands) (record { waiting = omega (arith, less, at); stray = is.stray; run = assembler.run; unit = assembler.unit })

-- where one ended before a packet
ended_within : (most now : ℕ) (s t : Reception) → IsEndedBefore now s t → IsWithinLimits most s → IsWithinLimits most t
ended_within most now s t it is = subst (IsWithinLimits most) (sym it.stands)
    (elim (is_behind_missing s.assembler it.packet.0) as (λ b. IsWithinLimits most (cond b (ended_behind_missing s it.packet) (ended_by_content s))) [
      | true ↦ record { waiting = is.waiting; stray = is.stray; run = omega arith; unit = omega arith }
      | false ↦ record { waiting = is.waiting; stray = is.stray; run = omega arith; unit = omega arith }
    ])

-- where those without bytes are passed over
bare_within_of : (most : ℕ) (units : List AccessUnitValue) (s : Reception) → IsWithinLimits most s → IsWithinLimits most (without_bare_of s units)
bare_within_of most [] s is = is
bare_within_of most (unit ∷ units) s is = elim (bears_nothing unit.bytes) as (λ b. IsWithinLimits most (cond b (without_bare_of (bare_passed s unit units) units) s)) [
  | true ↦ bare_within_of most units (bare_passed s unit units) (record { waiting = is.waiting; stray = is.stray; run = is.run; unit = is.unit })
  | false ↦ is
]

pub bare_within : (most : ℕ) (s : Reception) → IsWithinLimits most s → IsWithinLimits most (without_bare s)
bare_within most s is = bare_within_of most s.assembler.ended s is

pub drained_within : (most now : ℕ) (s t : Reception) → IsDrained now s t → IsWithinLimits most s → IsWithinLimits most t
drained_within most now s t none is = is
drained_within most now s t (bare before) is = bare_within most _ (drained_within most now s _ before is)
drained_within most now s t (more before empty taken) is = due_within most now _ t taken (drained_within most now s _ before is)
drained_within most now s t (behind before empty ended) is = ended_within most now _ t ended (drained_within most now s _ before is)

pub anew_within : (most : ℕ) (s : Reception) → IsWithinLimits most s → IsWithinLimits most (ended_if_anew s)
anew_within most s is = elim (has_no_unit s.assembler.ended && s.is_anew) as (λ b. (has_no_unit s.assembler.ended && s.is_anew) ≡ b → IsWithinLimits most (ended_if_anew s)) [
  | true ↦ λ e. rw e (record { waiting = is.waiting; stray = is.stray; run = omega arith; unit = omega arith })
  | false ↦ λ e. rw e is
] refl

over_within : (most : ℕ) (s : Reception) → IsWithinLimits most s → IsWithinLimits most (ended_if_over s)
over_within most s is = elim (has_no_unit s.assembler.ended && s.waiting.is_over) as (λ b. (has_no_unit s.assembler.ended && s.waiting.is_over) ≡ b → IsWithinLimits most (ended_if_over s)) [
  | true ↦ λ e. rw e (record { waiting = omega arith; stray = omega arith; run = omega arith; unit = omega arith })
  | false ↦ λ e. rw e is
] refl

given_within : (most : ℕ) (s : Reception) → IsWithinLimits most s → IsWithinLimits most (without_given s)
given_within most s is = by s.assembler.ended
  where
    by : (ended : List AccessUnitValue) → IsWithinLimits most (without_given_of s ended)
    by [] = is
    by (unit ∷ units) = record { waiting = is.waiting; stray = is.stray; run = is.run; unit = is.unit }

pub fresh_within : (most : ℕ) (config : AccessUnitConfig) (state : DepacketizerState) → IsWithinLimits most (fresh_reception config state)
fresh_within most config state = record { waiting = omega arith; stray = omega arith; run = omega arith; unit = omega arith }

pub next_within : (most now : ℕ) (s new : Reception) (unit : Option ReceivedAccessUnitValue) → IsNext now s new unit → IsWithinLimits most s → IsWithinLimits most new
next_within most now s new unit it is =
    subst (IsWithinLimits most) (sym it.stands)
    (given_within most (without_bare (ended_if_over it.drained)) (bare_within most (ended_if_over it.drained) (over_within most it.drained (drained_within most now (ended_if_anew (without_bare s)) it.drained it.taken (anew_within most (without_bare s) (bare_within most s is))))))

-- where a packet came and is answered so
pub pushed_within : (now : ℕ) (s new : Reception) (p : ℕ × RtpBody) (answer : Pushed) → answer ≡ reception_answer s p → IsPushed now s p answer new →
    StaysWithinLimits (length p.1.payload) s new
pushed_within now s new p answer is pushed = λ most small at.
    let waits = subst (λ (a : Pushed). IsWithinLimits most (after_reception now s p a)) (sym is) (push_within most now s p small at) in
    elim (is_taken_at_once s p) as (λ b. MatchBool b (IsDueTaken now (after_reception now s p answer) new) (new ≡ after_reception now s p answer) → IsWithinLimits most new) [
      | true ↦ λ taken. due_within most now (after_reception now s p answer) new taken waits
      | false ↦ λ stands. subst (IsWithinLimits most) (sym stands) waits
    ] pushed

-- so of one that is too far, and of one that is taken at once, where memory may lack
pub far_within : {E : Type 0} (now : ℕ) (s new : Reception) (p : ℕ × RtpBody) (result : Result Pushed E) → IfOk result (λ answer. answer ≡ reception_answer s p) → IfOk result (λ answer. new ≡ after_reception now s p answer) →
    OnErr result (new ≡ s) → StaysWithinLimits (length p.1.payload) s new
far_within now s new p (Ok answer) is stands kept = λ most small at. subst (IsWithinLimits most) (sym (stands ∙ ap (after_reception now s p) is)) (push_within most now s p small at)
far_within now s new p (Err error) is stands kept = λ most small at. subst (IsWithinLimits most) (sym kept) at

-- so of one that is given by value, which comes back where it is refused
pub aside_within : (now : ℕ) (s new : Reception) (p : ℕ × RtpBody) (result : Result Pushed NotPushed) → IfOk result (λ answer. answer ≡ reception_answer s p) → IfOk result (λ answer. new ≡ after_reception now s p answer) →
    IfErr result (λ it. new ≡ refused_reception s it.reason) → StaysWithinLimits (length p.1.payload) s new
aside_within now s new p (Ok answer) is stands kept = λ most small at. subst (IsWithinLimits most) (sym (stands ∙ ap (after_reception now s p) is)) (push_within most now s p small at)
aside_within now s new p (Err it) is stands kept = λ most small at. subst (IsWithinLimits most) (sym kept) (record { waiting = at.waiting; stray = at.stray; run = at.run; unit = at.unit })

pub at_once_within : {E : Type 0} (now : ℕ) (s new : Reception) (p : ℕ × RtpBody) (result : Result Pushed E) → pushes.Held ≡ reception_answer s p →
    OnOk result ((at : ℕ) → IsDueTaken at (after_reception at s p pushes.Held) new) → OnErr result (new ≡ s) → StaysWithinLimits (length p.1.payload) s new
at_once_within now s new p (Ok answer) is taken kept = λ most small at.
    due_within most now (after_reception now s p pushes.Held) new (taken now) (subst (λ (a : Pushed). IsWithinLimits most (after_reception now s p a)) (sym is) (push_within most now s p small at))
at_once_within now s new p (Err error) is taken kept = λ most small at. subst (IsWithinLimits most) (sym kept) at

-- where memory lacks for the next access unit
pub left_within : (len now : ℕ) (s new : Reception) → IsDrainedInPart now s new → StaysWithinLimits len s new
left_within len now s new (inl same) = λ most small at. subst (IsWithinLimits most) (sym same) (bare_within most s at)
left_within len now s new (inr taken) = λ most small at. drained_within most now (ended_if_anew (without_bare s)) new taken (anew_within most (without_bare s) (bare_within most s at))

-- The counts of a receiver are those of its calls.
use Rattle.std.proofs.Common.{◌≡◌, ◌∙◌, sym, refl, ℕ, ◌+◌, ◌≤◌, ◌<◌, Bool, true, false, cond, List, [], ◌∷◌, ◌++◌, length, Option, Some, None, arith, Result, Ok, Err}
use Rattle.std.specs.Prelude.{◌&&◌, IsPermutation, not}
use Rattle.std.proofs.lemmas.List.{length-append}
use Rattle.std.proofs.lemmas.List.Sorted.{length_permutation}
use Rattle.h26x_core.specs.Sequence.{is_late}
use Rattle.h26x_reorder.specs.Rtp.{RtpBody}
use Rattle.h26x_assembler.specs.AccessUnit.{Assembly}
use Rattle.h26x_access_units.specs.declared.pushed.Pushed.{Pushed}
use Rattle.h26x_access_units.specs.declared.pushed.Pushed.TheVariants as pushes
use Rattle.h26x_access_units.specs.Numbers.{bears_nothing}
use Rattle.h26x_access_units.specs.Reception.{is_no_unit, is_one_taken, begins_still, counts_answered}
use Rattle.h26x_core.specs.declared.error.PacketError.{PacketError}
use Rattle.h26x_receiver.specs.declared.received.Received.{Received}
use Rattle.h26x_receiver.specs.declared.received.Received.TheVariants as received
use Rattle.h26x_receiver.specs.Sequenced.{skip_answer, is_taken}
use Rattle.h26x_access_units.specs.declared.framing.Framing.{Framing}
use Rattle.h26x_access_units.specs.declared.counts.Counts.{Counts}
use Rattle.h26x_access_units.specs.Counts.{counted_push, counted_reason, counted_dropped, counted_skip, counted_answer, counted_no_unit, counted_framing, counted_due, counted_unit}
use Rattle.h26x_access_units.specs.declared.pushed.NotPushedReason.{NotPushedReason}
use Rattle.h26x_access_units.specs.declared.pushed.NotPushedReason.TheVariants as reasons
use Rattle.h26x_access_units.specs.Account.{ReceiverCall, PushCall, BackCall, NextCall, LackCall, FinishCall, RestartCall, SettingsCall, BeginCall, kept_packets, texts_given, tells_twice, tells_stray, tells_anew, tells_late, call_count}
use Rattle.h26x_access_units.proofs.AssembledLemmas.{IsOnTime, skip_on_time}

abbrev Packet : Type 0
Packet = ℕ × RtpBody

abbrev Packets : Type 0
Packets = List (ℕ × RtpBody)

-- the counts of packets that were due, together
abbrev due_sum : Counts → ℕ
due_sum c = c.taken + c.skipped + c.refused + c.no_unit

-- one of these more is counted, and the others stay
pub record OneMore (c new : Counts) : Type 0 where
  pub one : due_sum c < 18446744073709551615 → due_sum new ≡ due_sum c + 1
  pub late : new.late ≡ c.late
  pub twice : new.twice ≡ c.twice
  pub stray : new.stray ≡ c.stray
  pub anew : new.anew ≡ c.anew
  pub units : new.units ≡ c.units

skip_one : (c : Counts) (answer : Received) → is_taken (Ok answer) ≡ true → OneMore c (counted_skip c answer)
skip_one c (received.Late n) on_time = absurd (let bad = on_time in cc)
skip_one c received.InOrder on_time = record { one = λ lt. omega (arith, lt); late = refl; twice = refl; stray = refl; anew = refl; units = refl }
skip_one c (received.Gap n) on_time = record { one = λ lt. omega (arith, lt); late = refl; twice = refl; stray = refl; anew = refl; units = refl }
skip_one c (received.TooLong n) on_time = record { one = λ lt. omega (arith, lt); late = refl; twice = refl; stray = refl; anew = refl; units = refl }

answer_one : (c : Counts) (answer : Received) (text : Bool) → is_taken (Ok answer) ≡ true → OneMore c (counted_answer c answer text)
answer_one c (received.Late n) text on_time = absurd (let bad = on_time in cc)
answer_one c received.InOrder text on_time = record { one = λ lt. omega (arith, lt); late = refl; twice = refl; stray = refl; anew = refl; units = refl }
answer_one c (received.Gap n) text on_time = record { one = λ lt. omega (arith, lt); late = refl; twice = refl; stray = refl; anew = refl; units = refl }
answer_one c (received.TooLong n) text on_time = record { one = λ lt. omega (arith, lt); late = refl; twice = refl; stray = refl; anew = refl; units = refl }

no_unit_one : (c : Counts) (answer : Received) → is_taken (Ok answer) ≡ true → OneMore c (counted_no_unit c answer)
no_unit_one c (received.Late n) on_time = absurd (let bad = on_time in cc)
no_unit_one c received.InOrder on_time = record { one = λ lt. omega (arith, lt); late = refl; twice = refl; stray = refl; anew = refl; units = refl }
no_unit_one c (received.Gap n) on_time = record { one = λ lt. omega (arith, lt); late = refl; twice = refl; stray = refl; anew = refl; units = refl }
no_unit_one c (received.TooLong n) on_time = record { one = λ lt. omega (arith, lt); late = refl; twice = refl; stray = refl; anew = refl; units = refl }

due_one : (expected : Option ℕ) (c : Counts) (p : Packet) (answer : Result Received PacketError) (text : Bool) → IsOnTime answer → OneMore c (counted_due expected c p answer text)
due_one expected c p (Ok answer) text on_time = elim (bears_nothing p.1.payload) as (λ b. OneMore c (cond b (counted_skip c answer) (counted_answer c answer text))) [
  | true ↦ skip_one c answer on_time
  | false ↦ answer_one c answer text on_time
]
due_one expected c p (Err error) text on_time = record { one = λ lt. omega (arith, lt); late = refl; twice = refl; stray = refl; anew = refl; units = refl }

framing_one : (c new : Counts) (still unbelieved : Bool) → OneMore c new → OneMore c (counted_framing new still unbelieved)
framing_one c new still unbelieved it = record { one = it.one; late = it.late; twice = it.twice; stray = it.stray; anew = it.anew; units = it.units }

pub answered_one : (a : Assembly) (c : Counts) (at : Framing) (p : Packet) (marker text : Bool) (answer : Result Received PacketError) → is_late a.expected p.0 ≡ false → IsOnTime answer → OneMore c (counts_answered a c at p marker text answer)
answered_one a c at p marker text (Ok answer) timely on_time =
    let plain = counted_due a.expected c p (Ok answer) text in
    let it = due_one a.expected c p (Ok answer) text on_time in
    elim (is_one_taken p answer) as (λ b. OneMore c (cond b (counted_framing plain (begins_still a at p) (marker && not p.1.marker)) plain)) [
      | true ↦ framing_one c plain (begins_still a at p) (marker && not p.1.marker) it
      | false ↦ it
    ]
answered_one a c at p marker text (Err error) timely on_time = elim (is_no_unit a error p.1.payload) as (λ b. OneMore c (cond b (counted_no_unit c (skip_answer a.expected p.0)) (counted_due a.expected c p (Err error) text))) [
  | true ↦ no_unit_one c (skip_answer a.expected p.0) (skip_on_time a.expected p.0 timely)
  | false ↦ due_one a.expected c p (Err error) text on_time
]

-- no more packets were kept, or told late, than calls made
count_few : (tells : ReceiverCall → Bool) (calls : List ReceiverCall) → call_count tells calls ≤ length calls
count_few tells [] = omega arith
count_few tells (call ∷ calls) =
    let rest = count_few tells calls in
    elim (tells call) as (λ b. cond b (call_count tells calls + 1) (call_count tells calls) ≤ length (call ∷ calls)) [ true ↦ omega (arith, rest) | false ↦ omega (arith, rest) ]

pub kept_few : (calls : List ReceiverCall) → length (kept_packets calls) + call_count tells_late calls ≤ length calls
kept_few [] = omega arith
kept_few (PushCall now p pushes.Held ∷ calls) = let rest = kept_few calls in omega (arith, rest)
kept_few (PushCall now p (pushes.Late n) ∷ calls) = let rest = kept_few calls in omega (arith, rest)
kept_few (PushCall now p pushes.Twice ∷ calls) = let rest = kept_few calls in omega (arith, rest)
kept_few (PushCall now p pushes.Stray ∷ calls) = let rest = kept_few calls in omega (arith, rest)
kept_few (PushCall now p pushes.Anew ∷ calls) = let rest = kept_few calls in omega (arith, rest)
kept_few (PushCall now p pushes.Jumped ∷ calls) = let rest = kept_few calls in omega (arith, rest)
kept_few (PushCall now p pushes.Full ∷ calls) = let rest = kept_few calls in omega (arith, rest)
kept_few (BackCall p (reasons.Late n) ∷ calls) = let rest = kept_few calls in omega (arith, rest)
kept_few (BackCall p reasons.Twice ∷ calls) = let rest = kept_few calls in omega (arith, rest)
kept_few (BackCall p reasons.Full ∷ calls) = let rest = kept_few calls in omega (arith, rest)
kept_few (BackCall p reasons.OutOfMemory ∷ calls) = let rest = kept_few calls in omega (arith, rest)
kept_few (NextCall now unit ∷ calls) = let rest = kept_few calls in omega (arith, rest)
kept_few (LackCall now ∷ calls) = let rest = kept_few calls in omega (arith, rest)
kept_few (FinishCall ∷ calls) = let rest = kept_few calls in omega (arith, rest)
kept_few (RestartCall ∷ calls) = let rest = kept_few calls in omega (arith, rest)
kept_few (SettingsCall config ∷ calls) = let rest = kept_few calls in omega (arith, rest)
kept_few (BeginCall number ∷ calls) = let rest = kept_few calls in omega (arith, rest)

pub texts_few : (calls : List ReceiverCall) → length (texts_given calls) ≤ length calls
texts_few [] = omega arith
texts_few (NextCall now (Some unit) ∷ calls) =
    let rest = texts_few calls in
    let more_is = length-append (texts_given calls) ((unit.timestamp, unit.bytes) ∷ []) in
    omega (arith, rest, more_is)
texts_few (NextCall now None ∷ calls) = let rest = texts_few calls in omega (arith, rest)
texts_few (PushCall now p answer ∷ calls) = let rest = texts_few calls in omega (arith, rest)
texts_few (BackCall p reason ∷ calls) = let rest = texts_few calls in omega (arith, rest)
texts_few (LackCall now ∷ calls) = let rest = texts_few calls in omega (arith, rest)
texts_few (FinishCall ∷ calls) = let rest = texts_few calls in omega (arith, rest)
texts_few (RestartCall ∷ calls) = let rest = texts_few calls in omega (arith, rest)
texts_few (SettingsCall config ∷ calls) = let rest = texts_few calls in omega (arith, rest)
texts_few (BeginCall number ∷ calls) = let rest = texts_few calls in omega (arith, rest)

module _ (past : ℕ) where
  -- where fewer calls were made than a count goes to, with those before, the counts are of as many
  pub record Exact (calls : List ReceiverCall) (texts : List (ℕ × List ℕ)) (packets : Packets) (c : Counts) : Type 0 where
    pub twice : c.twice ≡ call_count tells_twice calls
    pub stray : c.stray ≡ call_count tells_stray calls
    pub anew : c.anew ≡ call_count tells_anew calls
    pub units : c.units ≡ length texts
    pub handed : due_sum c ≡ length packets
    pub late : c.late ≡ call_count tells_late calls

  abbrev pub Counted : ℕ → List ReceiverCall → List (ℕ × List ℕ) → Packets → Counts → Type 0
  Counted n calls texts packets c = n + past < 18446744073709551616 → Exact calls texts packets c

  -- more are kept than were handed on, where one waits
  pub handed_few : (kept x h w : Packets) (p : Packet) → IsPermutation kept (x ++ (h ++ (p ∷ w))) → length h + 1 ≤ length kept
  handed_few kept x h w p exact =
      let same = length_permutation kept (x ++ (h ++ (p ∷ w))) exact in
      let first = length-append x (h ++ (p ∷ w)) in
      let second = length-append h (p ∷ w) in
      omega (arith, same, first, second)

  pub due_counted : (n : ℕ) (calls : List ReceiverCall) (texts : List (ℕ × List ℕ)) (packets : Packets) (p : Packet) (c new : Counts) → length packets + 1 + call_count tells_late calls ≤ n → OneMore c new → Counted n calls texts packets c → Counted n calls texts (p ∷ packets) new
  due_counted n calls texts packets p c new few one_more counted = λ lt.
      let it = counted lt in
      let sum = it.handed in
      let one = one_more.one (omega (arith, lt, few, sum)) in
      record {
        twice = one_more.twice ∙ it.twice;
        stray = one_more.stray ∙ it.stray;
        anew = one_more.anew ∙ it.anew;
        units = one_more.units ∙ it.units;
        handed = omega (arith, one, sum);
        late = one_more.late ∙ it.late;
      }

  -- where other counts change alone
  pub same_counted : (n : ℕ) (calls : List ReceiverCall) (texts : List (ℕ × List ℕ)) (packets : Packets) (c : Counts) (lost : ℕ) → Counted n calls texts packets c → Counted n calls texts packets (counted_dropped c lost)
  same_counted n calls texts packets c lost counted = λ lt. let it = counted lt in record { twice = it.twice; stray = it.stray; anew = it.anew; units = it.units; handed = it.handed; late = it.late }

  -- an access unit more is given out
  pub unit_counted : (n : ℕ) (calls : List ReceiverCall) (texts : List (ℕ × List ℕ)) (packets : Packets) (c : Counts) (text : ℕ × List ℕ) (whole : Bool) → length texts ≤ n → Counted n calls texts packets c → Counted (n + 1) calls (texts ++ text ∷ []) packets (counted_unit c whole)
  unit_counted n calls texts packets c text whole few counted = λ lt.
      let it = counted (omega (arith, lt)) in
      let units = it.units in
      let more_is = length-append texts (text ∷ []) in
      record { twice = it.twice; stray = it.stray; anew = it.anew; units = omega (arith, units, more_is, few, lt); handed = it.handed; late = it.late }

  -- a packet is pushed
  pub push_counted : (calls : List ReceiverCall) (packets : Packets) (now : ℕ) (p : Packet) (c : Counts) (answer : Pushed) → length packets + call_count tells_late calls ≤ length calls → Counted (length calls) calls (texts_given calls) packets c →
      Counted (length calls + 1) (PushCall now p answer ∷ calls) (texts_given calls) packets (counted_push c answer)
  push_counted calls packets now p c pushes.Held small counted = λ lt. let it = counted (omega (arith, lt)) in record { twice = it.twice; stray = it.stray; anew = it.anew; units = it.units; handed = it.handed; late = it.late }
  push_counted calls packets now p c pushes.Full small counted = λ lt. let it = counted (omega (arith, lt)) in record { twice = it.twice; stray = it.stray; anew = it.anew; units = it.units; handed = it.handed; late = it.late }
  push_counted calls packets now p c pushes.Jumped small counted = λ lt. let it = counted (omega (arith, lt)) in record { twice = it.twice; stray = it.stray; anew = it.anew; units = it.units; handed = it.handed; late = it.late }
  push_counted calls packets now p c (pushes.Late n) small counted = λ lt.
      let it = counted (omega (arith, lt)) in
      let few = count_few tells_late calls in
      let is = it.late in
      record { twice = it.twice; stray = it.stray; anew = it.anew; units = it.units; handed = it.handed; late = omega (arith, few, is, lt) }
  push_counted calls packets now p c pushes.Twice small counted = λ lt. let it = counted (omega (arith, lt)) in let few = count_few tells_twice calls in let is = it.twice in record { twice = omega (arith, few, is, lt); stray = it.stray; anew = it.anew; units = it.units; handed = it.handed; late = it.late }
  push_counted calls packets now p c pushes.Stray small counted = λ lt. let it = counted (omega (arith, lt)) in let few = count_few tells_stray calls in let is = it.stray in record { twice = it.twice; stray = omega (arith, few, is, lt); anew = it.anew; units = it.units; handed = it.handed; late = it.late }
  push_counted calls packets now p c pushes.Anew small counted = λ lt. let it = counted (omega (arith, lt)) in let few = count_few tells_anew calls in let is = it.anew in record { twice = it.twice; stray = it.stray; anew = omega (arith, few, is, lt); units = it.units; handed = it.handed; late = it.late }

  -- one comes back
  pub back_counted : (calls : List ReceiverCall) (packets : Packets) (p : Packet) (c : Counts) (reason : NotPushedReason) → length packets + call_count tells_late calls ≤ length calls → Counted (length calls) calls (texts_given calls) packets c →
      Counted (length calls + 1) (BackCall p reason ∷ calls) (texts_given calls) packets (counted_reason c reason)
  back_counted calls packets p c (reasons.Late n) small counted = λ lt.
      let it = counted (omega (arith, lt)) in
      let few = count_few tells_late calls in
      let is = it.late in
      record { twice = it.twice; stray = it.stray; anew = it.anew; units = it.units; handed = it.handed; late = omega (arith, few, is, lt) }
  back_counted calls packets p c reasons.Twice small counted = λ lt. let it = counted (omega (arith, lt)) in let few = count_few tells_twice calls in let is = it.twice in record { twice = omega (arith, few, is, lt); stray = it.stray; anew = it.anew; units = it.units; handed = it.handed; late = it.late }
  back_counted calls packets p c reasons.Full small counted = λ lt. let it = counted (omega (arith, lt)) in record { twice = it.twice; stray = it.stray; anew = it.anew; units = it.units; handed = it.handed; late = it.late }
  back_counted calls packets p c reasons.OutOfMemory small counted = λ lt. let it = counted (omega (arith, lt)) in record { twice = it.twice; stray = it.stray; anew = it.anew; units = it.units; handed = it.handed; late = it.late }

  -- those that were handed on were kept
  pub handed_kept : (kept x h w : Packets) → IsPermutation kept (x ++ (h ++ w)) → length h ≤ length kept
  handed_kept kept x h w exact =
      let same = length_permutation kept (x ++ (h ++ w)) exact in
      let first = length-append x (h ++ w) in
      let second = length-append h w in
      omega (arith, same, first, second)

  -- so after a call that tells nothing of a packet
  pub again : (call : ReceiverCall) (calls : List ReceiverCall) (texts : List (ℕ × List ℕ)) (packets : Packets) (c : Counts) (n : ℕ) → n ≤ length calls + 1 →
      tells_twice call ≡ false → tells_stray call ≡ false → tells_anew call ≡ false → tells_late call ≡ false → Counted n calls texts packets c → Counted (length (call ∷ calls)) (call ∷ calls) texts packets c
  again call calls texts packets c n le twice stray anew late counted = λ lt.
      let it = counted (omega (arith, lt, le)) in
      record {
        twice = it.twice ∙ sym (rw twice refl);
        stray = it.stray ∙ sym (rw stray refl);
        anew = it.anew ∙ sym (rw anew refl);
        units = it.units;
        handed = it.handed;
        late = it.late ∙ sym (rw late refl);
      }

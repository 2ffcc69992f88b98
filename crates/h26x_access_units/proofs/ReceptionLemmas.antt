-- Packets that are due, taken one after the other, or at once.
use Rattle.std.proofs.Common.{◌≡◌, ◌∙◌, ap, sym, subst, ℕ, ◌+◌, ◌*◌, ◌<◌, Bool, true, false, cond, List, [], ◌∷◌, ◌++◌, length, Option, Some, None, inl, inr, map, slice_index_or, refl, arith}
use Rattle.std.specs.Prelude.{remove}
use Rattle.std.specs.Option.{unwrap_or}
use Rattle.h26x_assembler.specs.declared.access_unit.AccessUnit.{AccessUnit}
use Rattle.std.specs.Prelude.{◌==◌, ◌||◌, ◌&&◌, if◌then◌else◌, nat_lt, nat_le, slice_get}
use Rattle.h26x_core.specs.Sequence.{distance_ahead, distance_behind, is_late, missing_count}
use Rattle.std.proofs.lemmas.Bool.Decides.{nat_tests}
use Rattle.h26x_reorder.specs.Rtp.{RtpBody, rtp_body}
use Rattle.h26x_reorder.specs.ReorderBuffer.{BufferState, buffer_state, goes_straight, push_answer, after_push, first_ready, next_packet, without_first_of}
use Rattle.h26x_reorder.proofs.BufferLemmas.{none_held, held_alone}
use Rattle.h26x_core.specs.declared.error.PacketError.{PacketError}
use Rattle.std.specs.Prelude.{Result, Ok, Err, IfOk, MatchBool, not, is_some}
use Rattle.h26x_receiver.specs.declared.received.Received.{Received}
use Rattle.h26x_receiver.specs.declared.received.Received.TheVariants.{InOrder, Gap, TooLong, Late}
use Rattle.h26x_receiver.specs.Sequenced.{is_taken}
use Rattle.h26x_assembler.specs.AccessUnit.{AccessUnitValue, access_unit_value, Assembly, is_unit_at, given_out, after_rtp, after_ending, after_finishing}
use Rattle.h26x_access_units.specs.declared.counts.Counts.{Counts}
use Rattle.h26x_access_units.specs.declared.decoder.DecoderState.{DecoderState}
use Rattle.h26x_access_units.specs.declared.framing.Framing.{Framing}
use Rattle.h26x_access_units.specs.Framing.{fresh_framing, ends_by_content, believes}
use Rattle.h26x_access_units.specs.declared.numbers.NumbersSoFar.{NumbersSoFar}
use Rattle.h26x_reorder.specs.declared.pushed.Pushed.TheVariants as buffered
use Rattle.h26x_access_units.specs.declared.passed.PassedNumbers.{PassedNumbers}
use Rattle.h26x_access_units.specs.Passed.{is_noted, is_passed}
use Rattle.h26x_access_units.specs.declared.way.Way.{Way}
use Rattle.h26x_access_units.specs.declared.way.Way.TheVariants as ways
use Rattle.h26x_access_units.specs.declared.pushed.Pushed.{Pushed}
use Rattle.h26x_access_units.specs.declared.pushed.Pushed.TheVariants as pushes
use Rattle.h26x_access_units.specs.Counts.{counted_due, counted_skip, counted_answer, counted_dropped, counted_framing, counted_unit}
use Rattle.h26x_access_units.specs.Pushed.{as_pushed}
use Rattle.h26x_access_units.specs.Numbers.{bears_nothing, numbers_closed, numbers_carrying, after_last, after_missing, first_ended, without_first_ended}
use Rattle.h26x_access_units.specs.JitterBuffer.{JitterState, reach, is_far, is_ahead, is_full, is_pressed, awaited_number, awaited, due_packet, with_packet, without_due}
use Rattle.h26x_access_units.specs.ReceivedAccessUnit.{ReceivedAccessUnitValue, received_unit, decoder_with, whole_with}
use Rattle.h26x_access_units.specs.Reception.{Reception, reception, assembly_after, is_behind_missing, is_in_reach, shown_of, ends_before, is_one_taken, begins_still, believed, counts_answered, after_due, is_repeat, is_too_far, way_of, answer_on, reception_answer, after_reception, has_no_unit, has_bare, has_unit, bare_passed, first_passed, first_passed_of, without_bare, without_bare_of, is_taken_at_once, has_nothing_left, after_finish, ended_if_anew, ended_if_over, unit_given_of, unit_given, without_given_of, without_given, IsDueTaken, IsPushed, IsDrained, none, bare, more, behind, IsEndedBefore, ended_behind_missing, ended_by_content, ended_before, IsDueTakenOrNone, FollowsWhereDue, IsEndedOrFollows, IsStepOrNone, IsStep, ended_alone, taken_alone, ended_and_taken, IsStepInPart, IsNext}

-- where nothing is held nothing is ready
none_ready : (window : ℕ) (due : Option ℕ) → first_ready {A = RtpBody} window due [] ≡ None
none_ready window None = refl
none_ready window (Some due) = refl

at_most_both : (n m : ℕ) (b c : Bool) → n + 1 ≡ m → n * 2 + cond b 1 0 < m * 2 + cond c 1 0
at_most_both n m true true e = omega (arith, e)
at_most_both n m true false e = omega (arith, e)
at_most_both n m false true e = omega (arith, e)
at_most_both n m false false e = omega (arith, e)

-- of a packet that is due there is one less once it went
goes : (pressed : Bool) (window : ℕ) (due : Option ℕ) (held : List (ℕ × RtpBody)) (p : ℕ × RtpBody) →
    cond pressed (slice_get held 0) (first_ready window due held) ≡ Some p → length (without_first_of window due held).held + 1 ≡ length held
goes true window due [] p is = absurd (let bad = is in cc)
goes false window due [] p is = absurd (let bad = sym (none_ready window due) ∙ is in cc)
goes pressed window due (q ∷ held) p is = omega arith

-- so of one that was taken
pub taken_falls : (now : ℕ) (s t : Reception) → IsDueTaken now s t → length t.waiting.buffer.held + 1 ≡ length s.waiting.buffer.held
taken_falls now s t it =
    ap (λ (r : Reception). length r.waiting.buffer.held + 1) it.stands
    ∙ goes (is_pressed now s.waiting) s.waiting.buffer.window s.waiting.buffer.due s.waiting.buffer.held it.packet it.due

-- what stands after a packet with a payload
pub taken_as : (most limit : ℕ) (s new : Assembly) (p : ℕ × RtpBody) (a : Result Received PacketError) → bears_nothing p.1.payload ≡ false → new ≡ after_rtp most limit s p a →
    IfOk a (λ received. new ≡ assembly_after most limit s p (Ok received))
taken_as most limit s new p (Ok received) some is = rw some is
taken_as most limit s new p (Err error) some is = tt

pub some_bytes : (bytes : List ℕ) → (length bytes == 0) ≡ false → bears_nothing bytes ≡ false
some_bytes [] some = absurd (let bad = some in cc)
some_bytes (byte ∷ bytes) some = refl

-- of a packet that wasn't taken it doesn't count whether a text was given up
pub counted_as : (expected : Option ℕ) (c : Counts) (p : ℕ × RtpBody) (answer : Received) (x y : Bool) →
    (bears_nothing p.1.payload ≡ false → is_taken (Ok answer) ≡ true → x ≡ y) → counted_due expected c p (Ok answer) x ≡ counted_due expected c p (Ok answer) y
counted_as expected c p answer x y = by (bears_nothing p.1.payload) answer
  where
    by : (b : Bool) (answer : Received) → (b ≡ false → is_taken (Ok answer) ≡ true → x ≡ y) → cond b (counted_skip c answer) (counted_answer c answer x) ≡ cond b (counted_skip c answer) (counted_answer c answer y)
    by true answer same = refl
    by false (Late n) same = refl
    by false InOrder same = ap (counted_answer c InOrder) (same refl refl)
    by false (Gap n) same = ap (counted_answer c (Gap n)) (same refl refl)
    by false (TooLong n) same = ap (counted_answer c (TooLong n)) (same refl refl)

-- what stands after a packet that was due, by its parts
pub due_stands : (s : Reception) (p : ℕ × RtpBody) (a : Result Received PacketError) (waiting : JitterState) (passed : PassedNumbers) (assembler : Assembly) (framing : Framing) (numbers : NumbersSoFar) (counts : Counts) (run unit : ℕ) →
    waiting ≡ without_due s.waiting → passed ≡ (after_due s p a).passed → assembler ≡ (after_due s p a).assembler → framing ≡ (after_due s p a).framing → numbers ≡ (after_due s p a).numbers → counts ≡ (after_due s p a).counts →
    run ≡ s.run_limit → unit ≡ s.unit_limit → reception waiting s.stray s.is_anew passed assembler framing numbers s.decoder counts run unit ≡ after_due s p a
due_stands s p a waiting passed assembler framing numbers counts run unit w d f m n c r u =
    let after = after_due s p a in
    ap (λ (x : JitterState). reception x s.stray s.is_anew passed assembler framing numbers s.decoder counts run unit) w
    ∙ ap (λ (x : PassedNumbers). reception after.waiting s.stray s.is_anew x assembler framing numbers s.decoder counts run unit) d
    ∙ ap (λ (x : Assembly). reception after.waiting s.stray s.is_anew after.passed x framing numbers s.decoder counts run unit) f
    ∙ ap (λ (x : Framing). reception after.waiting s.stray s.is_anew after.passed after.assembler x numbers s.decoder counts run unit) m
    ∙ ap (λ (x : NumbersSoFar). reception after.waiting s.stray s.is_anew after.passed after.assembler after.framing x s.decoder counts run unit) n
    ∙ ap (λ (x : Counts). reception after.waiting s.stray s.is_anew after.passed after.assembler after.framing after.numbers s.decoder x run unit) c
    ∙ ap (λ (x : ℕ). reception after.waiting s.stray s.is_anew after.passed after.assembler after.framing after.numbers s.decoder after.counts x unit) r
    ∙ ap (λ (x : ℕ). reception after.waiting s.stray s.is_anew after.passed after.assembler after.framing after.numbers s.decoder after.counts s.run_limit x) u

-- a packet that needn't wait is due where it waits, whatever the tick
pub straight_is_due : (now at : ℕ) (j : JitterState) (p : ℕ × RtpBody) → p.0 < 65536 → goes_straight j.buffer p.0 ≡ true → due_packet now (with_packet at j p) ≡ Some p
straight_is_due now at j p small is = by (is_pressed now (with_packet at j p)) (after_push j.buffer p) (held_alone j.buffer p.0 p.1 small is)
  where
    by : (pressed : Bool) (b : BufferState RtpBody) → b ≡ buffer_state j.buffer.window (Some p.0) (p ∷ []) → cond pressed (slice_get b.held 0) (next_packet b) ≡ Some p
    by true b alone = ap (λ (x : BufferState RtpBody). slice_get x.held 0) alone
    by false b alone =
        let same : (p.0 == p.0) ≡ true = grind (arith, nat_tests) in
        ap next_packet alone ∙ rw same refl

-- the number that is awaited then
pub awaited_straight : (now : ℕ) (j : JitterState) (p : ℕ × RtpBody) → p.0 < 65536 → goes_straight j.buffer p.0 ≡ true → unwrap_or (awaited (with_packet now j p)) 0 ≡ p.0
awaited_straight now j p small is =
    ap (λ (b : BufferState RtpBody). unwrap_or (awaited_number j.has_begun b.due b.held) 0) (held_alone j.buffer p.0 p.1 small is)
    ∙ elim j.has_begun as (λ h. unwrap_or (awaited_number h (Some p.0) (p ∷ [])) 0 ≡ p.0) [ true ↦ refl | false ↦ refl ]

-- where none has ended
none_of_units : (units : List AccessUnitValue) → has_no_unit units ≡ true → units ≡ []
none_of_units [] is = refl
none_of_units (unit ∷ units) is = absurd (let bad = is in cc)

-- what is known of a packet that is taken at once
pub at_once : (s : Reception) (p : ℕ × RtpBody) → is_taken_at_once s p ≡ true →
    (goes_straight s.waiting.buffer p.0 ≡ true) × (has_no_unit s.assembler.ended ≡ true) × (s.is_anew ≡ false) × (ends_before s.assembler s.framing p ≡ false)
at_once s p = by (goes_straight s.waiting.buffer p.0) (is_behind_missing s.assembler p.0) (ends_before s.assembler s.framing p) (has_no_unit s.assembler.ended) s.is_anew
  where
    by : (a m e b c : Bool) → (a && (not m && (not e && (b && not c)))) ≡ true → (a ≡ true) × (b ≡ true) × (c ≡ false) × (e ≡ false)
    by true false false true false is = (refl, refl, refl, refl)
    by true false false true true is = absurd (let bad = is in cc)
    by true false false false c is = absurd (let bad = is in cc)
    by true false true b c is = absurd (let bad = is in cc)
    by true true e b c is = absurd (let bad = is in cc)
    by false m e b c is = absurd (let bad = is in cc)

-- it is answered as one that is held
neither : (a b : Bool) → a ≡ false → b ≡ false → (a || b) ≡ false
neither true b e f = e
neither false b e f = f

not_outside : (none a b : Bool) → a ≡ false → cond none false (a && b) ≡ false
not_outside true a b e = refl
not_outside false true b e = absurd (let bad = e in cc)
not_outside false false b e = refl

abbrev answer_at : Reception → ℕ × RtpBody → BufferState RtpBody → Pushed
answer_at s p b = reception_answer (record s { waiting = record s.waiting { buffer = b } }) p

straight_answer : (s : Reception) (p : ℕ × RtpBody) (window : ℕ) → p.0 < 65536 → length p.1.payload < 18446744073709551616 → answer_at s p (buffer_state window (Some p.0) []) ≡ pushes.Held
straight_answer s p window small len =
    let same : nat_lt (distance_ahead p.0 p.0) (distance_ahead p.0 p.0) ≡ false = grind (arith, nat_tests) in
    let near : is_far s.waiting.config.far s.waiting.config.far_behind (buffer_state window (Some p.0) []) p.0 ≡ false = not_outside (s.waiting.config.far == 0) _ _ same in
    let few : nat_lt s.waiting.config.held_limit 0 ≡ false = grind (arith, nat_tests) in
    let counted : nat_le 18446744073709551616 (0 + length p.1.payload) ≡ false = grind (arith, nat_tests) in
    let full : is_full (record s.waiting { buffer = buffer_state window (Some p.0) [] }) (length p.1.payload) ≡ false = neither _ _ few counted in
    let early : is_late (Some p.0) p.0 ≡ false = grind (arith, nat_tests) in
    let b = buffer_state window (Some p.0) [] in
    let zero : nat_lt 0 (distance_ahead p.0 p.0) ≡ false = grind (arith, nat_tests) in
    let at = record s { waiting = record s.waiting { buffer = b } } in
    let repeat : is_repeat at p.0 ≡ false = ap (λ (z : Bool). (z && nat_le (distance_ahead p.0 p.0) s.passed.count) && is_noted s.passed.taken p.0) zero in
    let far : is_too_far at p.0 ≡ false = ap (λ (f : Bool). f && not (is_passed s.passed (Some p.0) p.0)) near in
    let ahead : is_ahead b p.0 ≡ false = ap (λ (z : Bool). (z && nat_lt (distance_ahead p.0 p.0) 32768) && nat_lt (reach window) (distance_ahead p.0 p.0)) same in
    let way : way_of at p.0 ≡ ways.Window =
    ap (λ (f : Bool). cond f ways.Repeat (cond (is_too_far at p.0) ways.Far (cond (is_ahead b p.0) ways.Ahead ways.Window))) repeat
    ∙ ap (λ (f : Bool). cond f ways.Far (cond (is_ahead b p.0) ways.Ahead ways.Window)) far
    ∙ ap (λ (f : Bool). cond f ways.Ahead ways.Window) ahead in
    ap (λ (w : Way). answer_on w at p) way
    ∙ ap (λ (f : Bool). cond f pushes.Full (as_pushed (push_answer b p.0))) full
    ∙ ap (λ (l : Bool). as_pushed (cond l (buffered.Late (distance_behind (Some p.0) p.0)) buffered.Held)) early

pub held_at_once : (s : Reception) (p : ℕ × RtpBody) → p.0 < 65536 → length p.1.payload < 18446744073709551616 → is_taken_at_once s p ≡ true → pushes.Held ≡ reception_answer s p
held_at_once s p small len is =
    let b = s.waiting.buffer in
    let at = none_held b.window b.due b.held p.0 (at_once s p is).0 in
    sym (ap (λ (h : List (ℕ × RtpBody)). answer_at s p (buffer_state b.window b.due h)) at.0 ∙ ap (λ (d : Option ℕ). answer_at s p (buffer_state b.window d [])) at.1 ∙ straight_answer s p b.window small len)

-- one that was taken at this tick may be taken at another one
taken_later : (now later : ℕ) (s t : Reception) (p : ℕ × RtpBody) → p.0 < 65536 → goes_straight s.waiting.buffer p.0 ≡ true →
    IsDueTaken now (after_reception now s p pushes.Held) t → IsDueTaken later (after_reception now s p pushes.Held) t
taken_later now later s t p small is it =
    let same : Some p ≡ Some it.packet = sym (straight_is_due now now s.waiting p small is) ∙ it.due in
    record { packet = it.packet; answer = it.answer; due = straight_is_due later now s.waiting p small is ∙ same; follows = it.follows; answered = it.answered; room = it.room; stands = it.stands }

-- what was taken first, and what was taken then
pub drained_on : (now : ℕ) (s t u : Reception) → IsDrained now s t → IsDrained now t u → IsDrained now s u
drained_on now s t u first none = first
drained_on now s t u first (bare before) = bare (drained_on now s t _ first before)
drained_on now s t u first (more before ended last) = more (drained_on now s t _ first before) ended last
drained_on now s t u first (behind before ended last) = behind (drained_on now s t _ first before) ended last

-- where none has ended none is passed over
none_bare : (s : Reception) → s.assembler.ended ≡ [] → without_bare s ≡ s
none_bare s empty = ap (without_bare_of s) empty

-- those that are passed over change nothing of whether the stream has begun anew
bare_anew_of : (units : List AccessUnitValue) (s : Reception) → (without_bare_of s units).is_anew ≡ s.is_anew
bare_anew_of [] s = refl
bare_anew_of (unit ∷ units) s = elim (bears_nothing unit.bytes) as (λ b. (cond b (without_bare_of (bare_passed s unit units) units) s).is_anew ≡ s.is_anew) [
  | true ↦ bare_anew_of units (bare_passed s unit units)
  | false ↦ refl
]

-- where the stream hasn't begun anew none is ended for that
pub not_anew : (s : Reception) → s.is_anew ≡ false → ended_if_anew s ≡ s
not_anew s is = by (has_no_unit s.assembler.ended) s.is_anew is
  where
    by : (b c : Bool) → c ≡ false → cond (b && c) (record s { is_anew = false; assembler = after_finishing s.assembler; framing = fresh_framing; numbers = after_last s.numbers }) s ≡ s
    by true false e = refl
    by false c e = refl
    by true true e = absurd (let bad = e in cc)

-- what is given out next is the same whether a packet was taken at once or waited
pub as_if_it_waited : (now later : ℕ) (s t new : Reception) (p : ℕ × RtpBody) (unit : Option ReceivedAccessUnitValue) → p.0 < 65536 → IsPushed now s p pushes.Held t → IsNext later t new unit →
    IsNext later (after_reception now s p pushes.Held) new unit
as_if_it_waited now later s t new p unit small pushed next =
    elim (is_taken_at_once s p) as (λ b. is_taken_at_once s p ≡ b → MatchBool b (IsDueTaken now (after_reception now s p pushes.Held) t) (t ≡ after_reception now s p pushes.Held) → IsNext later (after_reception now s p pushes.Held) new unit) [
      | true ↦ λ is taken.
          let at = at_once s p is in
          let waits = after_reception now s p pushes.Held in
          let empty : s.assembler.ended ≡ [] = none_of_units s.assembler.ended at.1 in
          let anew : t.is_anew ≡ false = ap (λ (r : Reception). r.is_anew) taken.stands ∙ at.2 in
          let rest : IsDrained later (without_bare t) next.drained = subst (λ (r : Reception). IsDrained later r next.drained) (not_anew (without_bare t) (bare_anew_of t.assembler.ended t ∙ anew)) next.taken in
          let one : IsDrained later waits t = more none empty (taken_later now later s t p small at.0 taken) in
          let all : IsDrained later waits next.drained = drained_on later waits (without_bare t) next.drained (bare one) rest in
          let same : ended_if_anew (without_bare waits) ≡ waits = ap ended_if_anew (none_bare waits empty) ∙ not_anew waits at.2 in
          record {
            drained = next.drained;
            taken = subst (λ (r : Reception). IsDrained later r next.drained) (sym same) all;
            until = next.until;
            unit_is = next.unit_is;
            stands = next.stands;
          }
      | false ↦ λ is stands. subst (λ (r : Reception). IsNext later r new unit) stands next
    ] refl pushed

-- at the end of the stream alone one is ended for that
not_over : (s : Reception) → s.waiting.is_over ≡ false → ended_if_over s ≡ s
not_over s is = by (has_no_unit s.assembler.ended) s.waiting.is_over is
  where
    by : (b c : Bool) → c ≡ false → cond (b && c) (after_finish s) s ≡ s
    by true false e = refl
    by false c e = refl
    by true true e = absurd (let bad = e in cc)

-- where none waits none is due
none_due : (now : ℕ) (j : JitterState) → j.buffer.held ≡ [] → due_packet now j ≡ None
none_due now j = by (is_pressed now j) j.buffer.held
  where
    by : (pressed : Bool) (held : List (ℕ × RtpBody)) → held ≡ [] → cond pressed (slice_get held 0) (first_ready j.buffer.window j.buffer.due held) ≡ None
    by true [] empty = refl
    by false [] empty = none_ready j.buffer.window j.buffer.due
    by pressed (p ∷ held) empty = absurd (let bad = empty in cc)

none_waits : (held : List (ℕ × RtpBody)) → (length held == 0) ≡ true → held ≡ []
none_waits [] is = refl
none_waits (p ∷ held) is = absurd (let some : (length (p ∷ held) == 0) ≡ false = grind (arith, nat_tests) in let bad = rw some at is in cc)

-- so none is due where none waits
pub none_is_due : (now : ℕ) (j : JitterState) → (length j.buffer.held == 0) ≡ true → is_some (due_packet now j) ≡ false
none_is_due now j is = ap is_some (none_due now j (none_waits j.buffer.held is))

-- what is known where nothing is left
nothing_parts : (s : Reception) → has_nothing_left s ≡ true → (s.assembler.ended ≡ []) × (s.is_anew ≡ false) × (s.waiting.is_over ≡ false)
nothing_parts s is =
    let at = by (has_no_unit s.assembler.ended) s.is_anew s.waiting.is_over is in
    (none_of_units s.assembler.ended at.0, at.1, at.2)
  where
    by : (a b c : Bool) → (a && (not b && not c)) ≡ true → (a ≡ true) × (b ≡ false) × (c ≡ false)
    by true false false e = (refl, refl, refl)
    by true false true e = absurd (let bad = e in cc)
    by true true c e = absurd (let bad = e in cc)
    by false b c e = absurd (let bad = e in cc)

pub nothing_ended : (s : Reception) → has_nothing_left s ≡ true → s.assembler.ended ≡ []
nothing_ended s is = (nothing_parts s is).0

-- then nothing is done before packets are taken
pub nothing_first : (s : Reception) → has_nothing_left s ≡ true → ended_if_anew (without_bare s) ≡ s
nothing_first s is = let at = nothing_parts s is in ap ended_if_anew (none_bare s at.0) ∙ not_anew s at.1

-- then, where no packet is due, none is given out, and all stays
pub idle_next : (now : ℕ) (s : Reception) → has_nothing_left s ≡ true → is_some (due_packet now s.waiting) ≡ false → IsNext now s s None
idle_next now s is none_due =
    let at = nothing_parts s is in
    let over : ended_if_over s ≡ s = not_over s at.2 in
    let whole : without_bare (ended_if_over s) ≡ s = ap without_bare over ∙ ap (without_bare_of s) at.0 in
    record {
      drained = s;
      taken = subst (λ (r : Reception). IsDrained now r s) (sym (nothing_first s is)) none;
      until = λ _. none_some (due_packet now s.waiting) none_due;
      unit_is = sym (ap unit_given whole ∙ ap (unit_given_of s) at.0);
      stands = sym (ap without_given whole ∙ ap (without_given_of s) at.0);
    }
  where
    none_some : (due : Option (ℕ × RtpBody)) → is_some due ≡ false → due ≡ None
    none_some None e = refl
    none_some (Some p) e = absurd (let bad = e in cc)

-- before any was taken
pub none_more : (now : ℕ) (s : Reception) → IsDrained now s s
none_more now s = none

-- so of a step
pub one_step : (now : ℕ) (s t u : Reception) → IsDrained now s t → t.assembler.ended ≡ [] → IsStep now t u → IsDrained now s u
one_step now s t u before empty (ended_alone it has) = behind before empty it
one_step now s t u before empty (taken_alone it) = more before empty it
one_step now s t u before empty (ended_and_taken it none_left taken) = more (behind before empty it) none_left taken

-- so of a step from where nothing is left
pub stepped : (now : ℕ) (s t : Reception) (took : Bool) → has_nothing_left s ≡ true → IsStepOrNone now s took t → IsDrained now s t
stepped now s t true is it = one_step now s s t none (nothing_ended s is) it
stepped now s t false is it = subst (IsDrained now s) (sym it.1) none

-- and where memory lacked
pub step_in_part : (now : ℕ) (s t u : Reception) → IsDrained now s t → t.assembler.ended ≡ [] → IsStepInPart now t u → IsDrained now s u
step_in_part now s t u before empty (inl same) = subst (IsDrained now s) (sym same) before
step_in_part now s t u before empty (inr it) = behind before empty it

-- the first of access units that ended, once it was removed
pub front_removed : (units new : List AccessUnit) (unit : AccessUnit) → (length units == 0) ≡ false → unit ≡ slice_index_or units 0 unit → new ≡ remove units 0 →
    map access_unit_value units ≡ access_unit_value unit ∷ map access_unit_value new
front_removed [] new unit some value items = absurd (let bad = some in cc)
front_removed (u ∷ units) new unit some value items =
    ap (λ (x : AccessUnit). access_unit_value x ∷ map access_unit_value units) (sym value)
    ∙ ap (λ (l : List AccessUnit). access_unit_value unit ∷ map access_unit_value l) (sym items)

-- what is given out where one has ended
pub front_given : (s : Reception) (unit : AccessUnitValue) (rest : List AccessUnitValue) → s.assembler.ended ≡ unit ∷ rest →
    unit_given s ≡ Some (received_unit s.decoder s.waiting.config.has_sets s.assembler.state.is_avc unit (first_ended s.numbers))
front_given s unit rest is = ap (unit_given_of s) is

-- and what stands then, by its parts
pub without_front : (s : Reception) (unit : AccessUnitValue) (rest : List AccessUnitValue) (numbers : NumbersSoFar) (decoder : DecoderState) (counts : Counts) →
    s.assembler.ended ≡ unit ∷ rest → numbers ≡ without_first_ended s.numbers →
    decoder ≡ decoder_with s.decoder s.waiting.config.has_sets s.assembler.state.is_avc unit (first_ended s.numbers) →
    counts ≡ counted_unit s.counts (whole_with s.decoder s.assembler.state.is_avc unit (first_ended s.numbers)) →
    without_given s ≡ record s { assembler = record s.assembler { ended = rest }; numbers = numbers; decoder = decoder; counts = counts }
without_front s unit rest numbers decoder counts is n d c =
    ap (without_given_of s) is
    ∙ ap (λ (x : NumbersSoFar). record s { assembler = record s.assembler { ended = rest }; numbers = x; decoder = decoder_with s.decoder s.waiting.config.has_sets s.assembler.state.is_avc unit (first_ended s.numbers); counts = counted_unit s.counts (whole_with s.decoder s.assembler.state.is_avc unit (first_ended s.numbers)) }) (sym n)
    ∙ ap (λ (x : DecoderState). record s { assembler = record s.assembler { ended = rest }; numbers = numbers; decoder = x; counts = counted_unit s.counts (whole_with s.decoder s.assembler.state.is_avc unit (first_ended s.numbers)) }) (sym d)
    ∙ ap (λ (x : Counts). record s { assembler = record s.assembler { ended = rest }; numbers = numbers; decoder = decoder; counts = x }) (sym c)

-- two that are there are the same
same_there : (p q : ℕ × RtpBody) → Some p ≡ Some q → p ≡ q
same_there p q is = cc

-- where none ends before the packet that is due
pub follows_where_due : (now : ℕ) (s : Reception) (p : ℕ × RtpBody) → due_packet now s.waiting ≡ Some p → ends_before s.assembler s.framing p ≡ false → FollowsWhereDue now s
follows_where_due now s p due is = λ q other. subst (λ (x : ℕ × RtpBody). ends_before s.assembler s.framing x ≡ false) (same_there p q (sym due ∙ other)) is

-- none ends before a packet where none is open, and nothing is known to be missing before it
none_open_ends : (s : Assembly) (framing : Framing) (p : ℕ × RtpBody) → s.unit ≡ None → is_behind_missing s p.0 ≡ false → ends_before s framing p ≡ false
none_open_ends s framing p none_open clear =
    by (bears_nothing p.1.payload) (is_unit_at s.unit p.1.timestamp) (ap (λ (x : Option AccessUnitValue). is_unit_at x p.1.timestamp) none_open) clear
  where
    by : {m : Bool} (a b : Bool) → b ≡ false → m ≡ false → (not a && cond b (is_in_reach s p.0 && ends_by_content framing (shown_of s p)) m) ≡ false
    by true b e f = refl
    by false true e f = absurd (let bad = e in cc)
    by false false e f = f

-- so once one ended before the packet that is due
pub follows_ended : (now : ℕ) (s t : Reception) → IsEndedBefore now s t → FollowsWhereDue now t
follows_ended now s t it = subst (FollowsWhereDue now) (sym it.stands)
    (elim (is_behind_missing s.assembler it.packet.0) as (λ b. is_behind_missing s.assembler it.packet.0 ≡ b → FollowsWhereDue now (cond b (ended_behind_missing s it.packet) (ended_by_content s))) [
      | true ↦ λ is. follows_where_due now (ended_behind_missing s it.packet) it.packet it.due (none_open_ends (after_finishing s.assembler) s.framing it.packet refl refl)
      | false ↦ λ is. follows_where_due now (ended_by_content s) it.packet it.due (none_open_ends (after_ending s.assembler) s.framing it.packet refl is)
    ] refl)

-- what stands where one ended behind numbers that are missing, by its parts
pub ended_stands : (s : Reception) (p : ℕ × RtpBody) (assembler : Assembly) (numbers : NumbersSoFar) (counts : Counts) (run unit : ℕ) → is_behind_missing s.assembler p.0 ≡ true →
    assembler ≡ after_finishing s.assembler → numbers ≡ after_missing s.numbers (missing_count s.assembler.expected p.0) →
    counts ≡ counted_dropped s.counts (missing_count s.assembler.expected p.0) →
    run ≡ s.run_limit → unit ≡ s.unit_limit → reception s.waiting s.stray s.is_anew s.passed assembler s.framing numbers s.decoder counts run unit ≡ ended_before s p
ended_stands s p assembler numbers counts run unit is f n c r u =
    let after = ended_behind_missing s p in
    let same : ended_before s p ≡ after = rw is refl in
    ap (λ (x : Assembly). reception s.waiting s.stray s.is_anew s.passed x s.framing numbers s.decoder counts run unit) f
    ∙ ap (λ (x : NumbersSoFar). reception s.waiting s.stray s.is_anew s.passed after.assembler s.framing x s.decoder counts run unit) n
    ∙ ap (λ (x : Counts). reception s.waiting s.stray s.is_anew s.passed after.assembler s.framing after.numbers s.decoder x run unit) c
    ∙ ap (λ (x : ℕ). reception s.waiting s.stray s.is_anew s.passed after.assembler s.framing after.numbers s.decoder after.counts x unit) r
    ∙ ap (λ (x : ℕ). reception s.waiting s.stray s.is_anew s.passed after.assembler s.framing after.numbers s.decoder after.counts s.run_limit x) u
    ∙ sym same

-- and where it ended by its units
pub content_stands : (s : Reception) (p : ℕ × RtpBody) (assembler : Assembly) (numbers : NumbersSoFar) (run unit : ℕ) → is_behind_missing s.assembler p.0 ≡ false →
    assembler ≡ after_ending s.assembler → numbers ≡ numbers_closed s.numbers →
    run ≡ s.run_limit → unit ≡ s.unit_limit → reception s.waiting s.stray s.is_anew s.passed assembler s.framing numbers s.decoder s.counts run unit ≡ ended_before s p
content_stands s p assembler numbers run unit is f n r u =
    let after = ended_by_content s in
    let same : ended_before s p ≡ after = rw is refl in
    ap (λ (x : Assembly). reception s.waiting s.stray s.is_anew s.passed x s.framing numbers s.decoder s.counts run unit) f
    ∙ ap (λ (x : NumbersSoFar). reception s.waiting s.stray s.is_anew s.passed after.assembler s.framing x s.decoder s.counts run unit) n
    ∙ ap (λ (x : ℕ). reception s.waiting s.stray s.is_anew s.passed after.assembler s.framing after.numbers s.decoder s.counts x unit) r
    ∙ ap (λ (x : ℕ). reception s.waiting s.stray s.is_anew s.passed after.assembler s.framing after.numbers s.decoder s.counts s.run_limit x) u
    ∙ sym same

-- an access unit that ends before a packet leaves what waits
waiting_stays : (s : Reception) (p : ℕ × RtpBody) → (ended_before s p).waiting ≡ s.waiting
waiting_stays s p = elim (is_behind_missing s.assembler p.0) as (λ b. (cond b (ended_behind_missing s p) (ended_by_content s)).waiting ≡ s.waiting) [
  | true ↦ refl
  | false ↦ refl
]

-- a step by what was taken, where none ended
step_taken : (now : ℕ) (s new : Reception) (r : Result Bool PacketError) → IfOk r (λ took. IsDueTakenOrNone now s took new) → IfOk r (λ took. IsStepOrNone now s took new)
step_taken now s new (Ok true) it = taken_alone it
step_taken now s new (Ok false) it = it
step_taken now s new (Err error) it = it

pub step_follows : (now : ℕ) (s t new : Reception) (ended : Bool) (r : Result Bool PacketError) → IsEndedOrFollows now s ended t → ended ≡ false →
    IfOk r (λ took. IsDueTakenOrNone now t took new) → IfOk r (λ took. IsStepOrNone now s took new)
step_follows now s t new true r it is taken = absurd (let bad = is in cc)
step_follows now s t new false r it is taken = step_taken now s new r (subst (λ (x : Reception). IfOk r (λ took. IsDueTakenOrNone now x took new)) it.1 taken)

-- a step by what ended, where none was open, and by what was taken then
pub step_both : (now : ℕ) (s t new : Reception) (r : Result Bool PacketError) → IsEndedBefore now s t → t.assembler.ended ≡ [] →
    IfOk r (λ took. IsDueTakenOrNone now t took new) → IfOk r (λ took. IsStepOrNone now s took new)
step_both now s t new (Ok true) ended none_left it = ended_and_taken ended none_left it
step_both now s t new (Ok false) ended none_left it =
    let same : due_packet now t.waiting ≡ Some ended.packet = ap (λ (r : Reception). due_packet now r.waiting) ended.stands ∙ ap (due_packet now) (waiting_stays s ended.packet) ∙ ended.due in
    absurd (let bad = sym same ∙ it.0 in cc)
step_both now s t new (Err error) ended none_left it = it

-- behind numbers that are missing none is taken at once
pub not_at_once : (s : Reception) (p : ℕ × RtpBody) → is_behind_missing s.assembler p.0 ≡ true → is_taken_at_once s p ≡ false
not_at_once s p is = by (goes_straight s.waiting.buffer p.0) (is_behind_missing s.assembler p.0) (not (ends_before s.assembler s.framing p) && (has_no_unit s.assembler.ended && not s.is_anew)) is
  where
    by : (a m b : Bool) → m ≡ true → (a && (not m && b)) ≡ false
    by false m b e = refl
    by true true b e = refl
    by true false b e = absurd (let bad = e in cc)

-- nor where one ends before it
pub not_before_end : (s : Reception) (p : ℕ × RtpBody) → ends_before s.assembler s.framing p ≡ true → is_taken_at_once s p ≡ false
not_before_end s p is = by (goes_straight s.waiting.buffer p.0) (is_behind_missing s.assembler p.0) (ends_before s.assembler s.framing p) (has_no_unit s.assembler.ended && not s.is_anew) is
  where
    by : (a m b c : Bool) → b ≡ true → (a && (not m && (not b && c))) ≡ false
    by false m b c e = refl
    by true true b c e = refl
    by true false true c e = refl
    by true false false c e = absurd (let bad = e in cc)

-- else by what has ended and whether the stream has begun anew
pub at_once_else : (s : Reception) (p : ℕ × RtpBody) → goes_straight s.waiting.buffer p.0 ≡ true → is_behind_missing s.assembler p.0 ≡ false → ends_before s.assembler s.framing p ≡ false →
    is_taken_at_once s p ≡ (has_no_unit s.assembler.ended && not s.is_anew)
at_once_else s p = by (goes_straight s.waiting.buffer p.0) (is_behind_missing s.assembler p.0) (ends_before s.assembler s.framing p)
  where
    by : (a m b : Bool) → a ≡ true → m ≡ false → b ≡ false → (a && (not m && (not b && (has_no_unit s.assembler.ended && not s.is_anew)))) ≡ (has_no_unit s.assembler.ended && not s.is_anew)
    by true false false e f h = refl
    by false m b e f h = absurd (let bad = e in cc)
    by true true b e f h = absurd (let bad = f in cc)
    by true false true e f h = absurd (let bad = h in cc)

-- what is left to do: packets that wait, and before each an access unit that may end
abbrev pub work_left : JitterState → Option AccessUnitValue → ℕ
work_left j unit = length j.buffer.held * 2 + (if is_some unit then 1 else 0)

-- where one has ended by itself one was open
was_open : (unit : Option AccessUnitValue) (holds : Bool) (ended : List AccessUnitValue) → ended ≡ [] → has_no_unit (ended ++ given_out holds unit) ≡ false → is_some unit ≡ true
was_open None holds [] empty is = absurd (let bad = is in cc)
was_open None holds (unit ∷ ended) empty is = absurd (let bad = empty in cc)
was_open (Some unit) holds ended empty is = refl

ended_falls : (now : ℕ) (s t : Reception) → s.assembler.ended ≡ [] → IsEndedBefore now s t → has_no_unit t.assembler.ended ≡ false → work_left t.waiting t.assembler.unit < work_left s.waiting s.assembler.unit
ended_falls now s t empty it has =
    elim (is_behind_missing s.assembler it.packet.0) as (λ b. t ≡ cond b (ended_behind_missing s it.packet) (ended_by_content s) → work_left t.waiting t.assembler.unit < work_left s.waiting s.assembler.unit) [
      | true ↦ λ stands.
          let open_before = was_open s.assembler.unit _ s.assembler.ended empty (sym (ap (λ (r : Reception). has_no_unit r.assembler.ended) stands) ∙ has) in
          subst (λ (r : Reception). work_left r.waiting r.assembler.unit < work_left s.waiting s.assembler.unit) (sym stands) (rw open_before (omega arith))
      | false ↦ λ stands.
          let open_before = was_open s.assembler.unit _ s.assembler.ended empty (sym (ap (λ (r : Reception). has_no_unit r.assembler.ended) stands) ∙ has) in
          subst (λ (r : Reception). work_left r.waiting r.assembler.unit < work_left s.waiting s.assembler.unit) (sym stands) (rw open_before (omega arith))
    ] it.stands

-- a step leaves less
pub step_falls : (now : ℕ) (s t : Reception) → s.assembler.ended ≡ [] → IsStep now s t → work_left t.waiting t.assembler.unit < work_left s.waiting s.assembler.unit
step_falls now s t empty (ended_alone it has) = ended_falls now s t empty it has
step_falls now s t empty (taken_alone it) = let falls = taken_falls now s t it in at_most_both _ _ (is_some t.assembler.unit) (is_some s.assembler.unit) falls
step_falls now s t empty (ended_and_taken it none_left taken) =
    let falls = taken_falls now _ t taken in
    let same = ap (λ (r : Reception). length r.waiting.buffer.held) it.stands ∙ ap (λ (j : JitterState). length j.buffer.held) (waiting_stays s it.packet) in
    at_most_both _ _ (is_some t.assembler.unit) (is_some s.assembler.unit) (falls ∙ same)

-- those without bytes that are passed over leave what waits and what is open
bare_keeps_of : (units : List AccessUnitValue) (s : Reception) → (without_bare_of s units).waiting ≡ s.waiting × (without_bare_of s units).assembler.unit ≡ s.assembler.unit
bare_keeps_of [] s = (refl, refl)
bare_keeps_of (unit ∷ units) s = elim (bears_nothing unit.bytes) as (λ b. (cond b (without_bare_of (bare_passed s unit units) units) s).waiting ≡ s.waiting × (cond b (without_bare_of (bare_passed s unit units) units) s).assembler.unit ≡ s.assembler.unit) [
  | true ↦ bare_keeps_of units (bare_passed s unit units)
  | false ↦ (refl, refl)
]

pub bare_keeps : (s : Reception) → work_left (without_bare s).waiting (without_bare s).assembler.unit ≡ work_left s.waiting s.assembler.unit
bare_keeps s =
    let kept = bare_keeps_of s.assembler.ended s in
    ap (λ (j : JitterState). work_left j (without_bare s).assembler.unit) kept.0 ∙ ap (work_left s.waiting) kept.1

-- the first that ended has no bytes, and is passed over
pub bare_goes : (s : Reception) → has_bare s.assembler.ended ≡ true → without_bare (first_passed s) ≡ without_bare s
bare_goes s = by s.assembler.ended
  where
    by : (units : List AccessUnitValue) → has_bare units ≡ true → without_bare (first_passed_of s units) ≡ without_bare_of s units
    by [] is = absurd (let bad = is in cc)
    by (unit ∷ units) is = rw is refl

-- the first that ended has bytes, or none ended
pub bare_stays : (s : Reception) → has_bare s.assembler.ended ≡ false → without_bare s ≡ s
bare_stays s = by s.assembler.ended
  where
    by : (units : List AccessUnitValue) → has_bare units ≡ false → without_bare_of s units ≡ s
    by [] is = refl
    by (unit ∷ units) is = rw is refl

-- what is known where the first that ended has bytes
unit_parts : (units : List AccessUnitValue) → has_unit units ≡ true → (has_bare units ≡ false) × (has_no_unit units ≡ false)
unit_parts [] is = absurd (let bad = is in cc)
unit_parts (unit ∷ units) is = (by (bears_nothing unit.bytes) is, refl)
  where
    by : (b : Bool) → not b ≡ true → b ≡ false
    by true e = absurd (let bad = e in cc)
    by false e = refl

-- once packets were taken until one ended with bytes, that is given out, and nothing else is done
pub drained_next : (now : ℕ) (s t new : Reception) (unit : Option ReceivedAccessUnitValue) → IsDrained now (ended_if_anew (without_bare s)) t → has_unit t.assembler.ended ≡ true → unit ≡ unit_given t → new ≡ without_given t → IsNext now s new unit
drained_next now s t new unit taken is given stands =
    let at = unit_parts t.assembler.ended is in
    let over : ended_if_over t ≡ t = over_by (has_no_unit t.assembler.ended) at.1 in
    let whole : without_bare (ended_if_over t) ≡ t = ap without_bare over ∙ bare_stays t at.0 in
    record {
      drained = t;
      taken = taken;
      until = λ empty. absurd (let bad = sym at.1 ∙ ap has_no_unit empty in cc);
      unit_is = given ∙ sym (ap unit_given whole);
      stands = stands ∙ sym (ap without_given whole);
    }
  where
    over_by : (b : Bool) → b ≡ false → cond (b && t.waiting.is_over) (after_finish t) t ≡ t
    over_by true e = absurd (let bad = e in cc)
    over_by false e = refl

-- so where one had ended before any was taken
pub first_next : (now : ℕ) (s new : Reception) (unit : Option ReceivedAccessUnitValue) → has_unit s.assembler.ended ≡ true → unit ≡ unit_given s → new ≡ without_given s → IsNext now s new unit
first_next now s new unit is given stands =
    let at = unit_parts s.assembler.ended is in
    let same : without_bare s ≡ s = bare_stays s at.0 in
    let anew : ended_if_anew s ≡ s = anew_by (has_no_unit s.assembler.ended) at.1 in
    drained_next now s s new unit (subst (λ (r : Reception). IsDrained now r s) (sym (ap ended_if_anew same ∙ anew)) none) is given stands
  where
    anew_by : (b : Bool) → b ≡ false → cond (b && s.is_anew) (record s { is_anew = false; assembler = after_finishing s.assembler; framing = fresh_framing; numbers = after_last s.numbers }) s ≡ s
    anew_by true e = absurd (let bad = e in cc)
    anew_by false e = refl

-- no access unit has ended
pub none_ended : (units : List AccessUnitValue) (has : Bool) → has ≡ not (has_no_unit units) → has ≡ false → units ≡ []
none_ended [] has e f = refl
none_ended (unit ∷ units) has e f = absurd (let bad = sym e ∙ f in cc)

-- of two the first, by a test
pub where_true : (b : Bool) (P Q : Type 0) → MatchBool b P Q → b ≡ true → P
where_true true P Q it e = it
where_true false P Q it e = absurd (let bad = e in cc)

-- whether one ends before a packet of its timestamp that has a payload
pub ends_at : (s : Assembly) (framing : Framing) (p : ℕ × RtpBody) (reaches : Bool) → bears_nothing p.1.payload ≡ false → is_unit_at s.unit p.1.timestamp ≡ true → is_in_reach s p.0 ≡ reaches →
    ends_before s framing p ≡ (reaches && ends_by_content framing (shown_of s p))
ends_at s framing p reaches = by (bears_nothing p.1.payload) (is_unit_at s.unit p.1.timestamp) (is_in_reach s p.0)
  where
    by : (a b r : Bool) → a ≡ false → b ≡ true → r ≡ reaches → (not a && cond b (r && ends_by_content framing (shown_of s p)) (is_behind_missing s p.0)) ≡ (reaches && ends_by_content framing (shown_of s p))
    by false true r e f h = ap (λ (x : Bool). x && ends_by_content framing (shown_of s p)) h
    by true b r e f h = absurd (let bad = e in cc)
    by false false r e f h = absurd (let bad = f in cc)

-- and before one of another timestamp
pub ends_else : (s : Assembly) (framing : Framing) (p : ℕ × RtpBody) → bears_nothing p.1.payload ≡ false → is_unit_at s.unit p.1.timestamp ≡ false → ends_before s framing p ≡ is_behind_missing s p.0
ends_else s framing p = by (bears_nothing p.1.payload) (is_unit_at s.unit p.1.timestamp)
  where
    by : (a b : Bool) → a ≡ false → b ≡ false → (not a && cond b (is_in_reach s p.0 && ends_by_content framing (shown_of s p)) (is_behind_missing s p.0)) ≡ is_behind_missing s p.0
    by false false e f = refl
    by true b e f = absurd (let bad = e in cc)
    by false true e f = absurd (let bad = f in cc)

-- without a marker none is believed
pub unmarked_believed : (at : Framing) (p : ℕ × RtpBody) → p.1.marker ≡ false → believed at p ≡ p
unmarked_believed at p is =
    ap (λ (b : Bool). (p.0, rtp_body p.1.timestamp (believes at b) p.1.payload)) is
    ∙ ap (λ (b : Bool). (p.0, rtp_body p.1.timestamp b p.1.payload)) (sym is)

-- the counts of a packet that isn't refused, by whether a text was given up where it was taken
pub counts_as : (s : Assembly) (c : Counts) (at : Framing) (p : ℕ × RtpBody) (marker still unbelieved x y : Bool) (answer : Received) →
    still ≡ begins_still s at p → unbelieved ≡ (marker && not p.1.marker) → (bears_nothing p.1.payload ≡ false → is_taken (Ok answer) ≡ true → x ≡ y) →
    cond (is_one_taken p answer) (counted_framing (counted_due s.expected c p (Ok answer) x) still unbelieved) (counted_due s.expected c p (Ok answer) x)
    ≡ counts_answered s c at p marker y (Ok answer)
counts_as s c at p marker still unbelieved x y answer is_still is_unbelieved text =
    ap (λ (d : Counts). cond (is_one_taken p answer) (counted_framing d still unbelieved) d) (counted_as s.expected c p answer x y text)
    ∙ ap (λ (b : Bool). cond (is_one_taken p answer) (counted_framing (counted_due s.expected c p (Ok answer) y) b unbelieved) (counted_due s.expected c p (Ok answer) y)) is_still
    ∙ ap (λ (b : Bool). cond (is_one_taken p answer) (counted_framing (counted_due s.expected c p (Ok answer) y) (begins_still s at p) b) (counted_due s.expected c p (Ok answer) y)) is_unbelieved

-- what stands once the first that ended was passed over, by its parts
pub passed_front : (s : Reception) (unit : AccessUnitValue) (rest : List AccessUnitValue) (numbers : NumbersSoFar) (decoder : DecoderState) →
    s.assembler.ended ≡ unit ∷ rest → numbers ≡ numbers_carrying (without_first_ended s.numbers) (first_ended s.numbers).missing →
    decoder ≡ decoder_with s.decoder s.waiting.config.has_sets s.assembler.state.is_avc unit (first_ended s.numbers) →
    first_passed s ≡ record s { assembler = record s.assembler { ended = rest }; numbers = numbers; decoder = decoder }
passed_front s unit rest numbers decoder is n d =
    ap (first_passed_of s) is
    ∙ ap (λ (x : NumbersSoFar). record s { assembler = record s.assembler { ended = rest }; numbers = x; decoder = decoder_with s.decoder s.waiting.config.has_sets s.assembler.state.is_avc unit (first_ended s.numbers) }) (sym n)
    ∙ ap (λ (x : DecoderState). record s { assembler = record s.assembler { ended = rest }; numbers = numbers; decoder = x }) (sym d)

-- once those without bytes are passed over
pub drained_bare : (now : ℕ) (s t u : Reception) → IsDrained now s t → u ≡ without_bare t → IsDrained now s u
drained_bare now s t u before is = subst (IsDrained now s) (sym is) (bare before)

-- where none is left
pub none_is_left : (units : List AccessUnitValue) (none_left : Bool) → none_left ≡ has_no_unit units → none_left ≡ true → units ≡ []
none_is_left units none_left is holds = none_of_units units (sym is ∙ holds)

-- where no step was taken
pub no_step : (now : ℕ) (s t u : Reception) (took : Bool) → IsDrained now s t → IsStepOrNone now t took u → took ≡ false → IsDrained now s u
no_step now s t u true before it is = absurd (let bad = is in cc)
no_step now s t u false before it is = subst (IsDrained now s) (sym it.1) before

-- a step leaves less than there was before those without bytes were passed over
pub bare_step_falls : (now : ℕ) (s u t : Reception) → u ≡ without_bare s → u.assembler.ended ≡ [] → IsStep now u t → work_left t.waiting t.assembler.unit < work_left s.waiting s.assembler.unit
bare_step_falls now s u t is empty taken =
    subst (λ (n : ℕ). work_left t.waiting t.assembler.unit < n) (ap (λ (r : Reception). work_left r.waiting r.assembler.unit) is ∙ bare_keeps s) (step_falls now u t empty taken)

-- where the first has no bytes there is one
pub some_bare : (units : List AccessUnit) → has_bare (map access_unit_value units) ≡ true → (length units == 0) ≡ false
some_bare [] is = absurd (let bad = is in cc)
some_bare (unit ∷ units) is = grind (arith, nat_tests)

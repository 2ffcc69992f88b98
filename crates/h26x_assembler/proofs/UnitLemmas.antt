-- What an assembler gives out of packets that are all taken.
use Rattle.std.proofs.Common.{◌≡◌, ℕ, ◌+◌, ◌<◌, ◌≤◌, Bool, true, false, cond, eq-eqb, List, [], ◌∷◌, ◌++◌, length, length-append, Option, Some, None, refl, sym, ap, ◌∙◌, subst, arith}
use Rattle.std.specs.Prelude.{◌==◌, ◌&&◌, ◌||◌, nat_lt}
use Rattle.std.specs.List.{list_any, list_all}
use Rattle.std.proofs.lemmas.List.{append-nil}
use Rattle.std.proofs.lemmas.Bool.Decides.{nat_tests}
use Rattle.h26x_core.specs.declared.extra.CodecExtra.TheVariants as extras
use Rattle.h26x_model.specs.Payload.Format.{Format}
use Rattle.h26x_core.specs.ByteStream.{byte_stream}
use Rattle.h26x_model.specs.Receive.Received.{run_after, reading_units}
use Rattle.h26x_model.specs.Receive.DepacketizerState.{DepacketizerState, Depacketization, depacketization, after_packets}
use Rattle.h26x_model.specs.Receive.RunLimit.{run_len, run_within, state_with_run, without_open_run, with_run_within}
use Rattle.h26x_model.specs.Carry.Gaps.{after_kept_packets}
use Rattle.h26x_core.specs.Sequence.{next_sequence_number, is_expected}
use Rattle.h26x_receiver.specs.Sequenced.{with_run_if}
use Rattle.h26x_receiver.specs.Delivery.{IsNextPlace}
use Rattle.h26x_core.proofs.SequenceLemmas.{number_at, next_number}
use Rattle.h26x_receiver.proofs.PlaceLemmas.{expected_at, is_place, IsOn, on_place, next_in_time, next_near}
use Rattle.h26x_reorder.specs.Rtp.{RtpBody, rtp_body}
use Rattle.h26x_assembler.specs.AccessUnit.{AccessUnitValue, whole_if, Assembly, assembly, is_unit_at, is_closed_at, is_run_closed, leaves_no_byte, gives_up_run, is_unit_broken, given_out, after_taken_rtp}
use Rattle.h26x_assembler.specs.StampedCalls.{has_none, unit_bodies, are_runs_within, last_came}
use Rattle.h26x_assembler.specs.AnyUnits.{is_some_unit, is_unused, are_used}
use Rattle.h26x_assembler.proofs.TakeLemmas.{at_gap}

-- what stands after packets that are taken
abbrev pub after_all_taken : ℕ → Assembly → List (ℕ × RtpBody) → Assembly
after_all_taken most s [] = s
after_all_taken most s (p ∷ packets) = after_all_taken most (after_taken_rtp most s p) packets

pub taken_append : (most : ℕ) (s : Assembly) (a b : List (ℕ × RtpBody)) → after_all_taken most s (a ++ b) ≡ after_all_taken most (after_all_taken most s a) b
taken_append most s [] b = refl
taken_append most s (p ∷ a) b = taken_append most (after_taken_rtp most s p) a b

-- the packets that a mask keeps, with their numbers, from a place on
abbrev pub kept_from : ℕ → ℕ → List Bool → List RtpBody → List (ℕ × RtpBody)
kept_from first place (true ∷ mask) (b ∷ bodies) = (number_at first place, b) ∷ kept_from first (place + 1) mask bodies
kept_from first place (false ∷ mask) (b ∷ bodies) = kept_from first (place + 1) mask bodies
kept_from first place mask bodies = []

-- what is expected after them
abbrev pub expected_after : Option ℕ → ℕ → List Bool → Option ℕ
expected_after e p [] = e
expected_after e p (true ∷ mask) = expected_after (Some (p + 1)) (p + 1) mask
expected_after e p (false ∷ mask) = expected_after e (p + 1) mask

-- gaps shorter than half of the numbers' circle
abbrev pub AreGapsShort : Option ℕ → ℕ → List Bool → Type 0
AreGapsShort e p [] = Unit {0}
AreGapsShort e p (true ∷ mask) = IsNextPlace e p × AreGapsShort (Some (p + 1)) (p + 1) mask
AreGapsShort e p (false ∷ mask) = AreGapsShort e (p + 1) mask

-- a place behind the one expected
abbrev pub IsBehind : Option ℕ → ℕ → Type 0
IsBehind None place = Unit {0}
IsBehind (Some expected) place = expected < place

-- it is not the one expected
pub not_place : (e : Option ℕ) (p : ℕ) → IsBehind e p → is_place e p ≡ false
not_place None p behind = refl
not_place (Some q) p behind = grind (arith, nat_tests)

pub behind_next : (e : Option ℕ) (p : ℕ) → IsOn e p → IsBehind e (p + 1)
behind_next None p on = tt
behind_next (Some q) p on = omega arith

pub on_next : (e : Option ℕ) (p : ℕ) → IsOn e p → IsOn e (p + 1)
on_next None p on = tt
on_next (Some q) p on = omega arith

pub behind_more : (e : Option ℕ) (p q : ℕ) → p ≤ q → IsBehind e p → IsBehind e q
behind_more None p q le behind = tt
behind_more (Some k) p q le behind = omega arith

pub same_place : (p : ℕ) → (p == p) ≡ true
same_place p = eq-eqb p p refl

-- an access unit with what was written
abbrev unit_of : ℕ → Depacketization → Bool → AccessUnitValue
unit_of t w whole = record {
  timestamp = t;
  bytes = w.out;
  extra = w.extra;
  is_whole = whole;
}

-- an assembler in the midst of an access unit
abbrev pub opened : ℕ → Option ℕ → ℕ → Depacketization → Bool → List AccessUnitValue → Assembly
opened first e t w whole ended = assembly w.state (expected_at first e) (Some (unit_of t w whole)) ended

-- whether a packet that is taken leaves a run that is too long
abbrev is_long : ℕ → Depacketization → List ℕ → Bool
is_long most w x = nat_lt most (run_len (after_packets w (x ∷ [])).state.run)

-- whether no byte stands of a packet
abbrev drops : Depacketization → List ℕ → Bool
drops w x = leaves_no_byte w (after_packets w (x ∷ []))

-- whether a unit lacks its end or its start by it
abbrev breaks : Depacketization → List ℕ → Bool
breaks w x = is_unit_broken w (after_packets w (x ∷ [])) x

-- whether nothing is known to be missing, by whether a run is too long, a unit lacks its end or its start by the packet, and it follows
abbrev pub sound_bit : Bool → Bool → Bool → Bool
sound_bit long broken b = cond long false (cond broken false b)

-- what never holds
never : (b : Bool) → cond b false false ≡ false
never true = refl
never false = refl

-- so where the packet doesn't follow
not_following : (whole long c d : Bool) → (whole && sound_bit long c false) ≡ (whole && sound_bit long d false)
not_following whole long c d = ap (λ (x : Bool). whole && cond long false x) (never c ∙ sym (never d))

-- what a packet leaves, where this stands
abbrev next_work : ℕ → Depacketization → List ℕ → Depacketization
next_work most w x = with_run_within most (after_packets w (x ∷ []))

abbrev next_unit : ℕ → ℕ → Bool → Bool → Depacketization → List ℕ → AccessUnitValue
next_unit most t whole b w x = unit_of t (next_work most w x) (whole && sound_bit (is_long most w x) (breaks w x) b)

abbrev stepped : ℕ → ℕ → Bool → Bool → Depacketization → List AccessUnitValue → ℕ → Bool → List ℕ → Assembly
stepped most t whole b w ended number marker x = at_gap false (cond marker (Some t) None) (next_work most w x).state (Some (next_sequence_number number))
    (cond marker None (Some (next_unit most t whole b w x))) (ended ++ cond marker (whole_if (is_run_closed (next_work most w x).state.run) (next_unit most t whole b w x) ∷ []) [])

-- a packet that goes on with an access unit
step_on : (most t : ℕ) (w : Depacketization) (whole b : Bool) (ended : List AccessUnitValue) (expected : Option ℕ) (number : ℕ) (marker : Bool) (x : List ℕ) →
    is_expected expected number ≡ b →
    after_taken_rtp most (assembly w.state expected (Some (unit_of t w whole)) ended) (number, rtp_body t marker x)
    ≡ stepped most t whole b (with_run_if b w) ended number marker x
step_on most t w whole true ended expected number marker x is =
    let next = next_work most w x in
    let unit = next_unit most t whole true w x in
    rw (same_place t, is) (ap (λ (l : List AccessUnitValue). at_gap false (cond marker (Some t) None) next.state (Some (next_sequence_number number))
    (cond marker None (Some unit)) (l ++ cond marker (whole_if (is_run_closed next.state.run) unit ∷ []) []))
    (append-nil ended))
step_on most t w whole false ended expected number marker x is =
    let here = without_open_run w in
    let next = next_work most here x in
    let broken = gives_up_run w.state.run (w.state.format.read x) || drops here x in
    let left : List AccessUnitValue → Bool → Assembly = λ l h. at_gap false (cond marker (Some t) None) next.state (Some (next_sequence_number number))
    (cond marker None (Some (unit_of t next h))) (l ++ cond marker (whole_if (is_run_closed next.state.run) (unit_of t next h) ∷ []) []) in
    rw (same_place t, is) (ap (left (ended ++ [])) (not_following whole (is_long most here x) broken (breaks here x))
    ∙ ap (λ (l : List AccessUnitValue). left l (whole && sound_bit (is_long most here x) (breaks here x) false)) (append-nil ended))

-- where an access unit begins
abbrev pub begun : Assembly → Depacketization
begun s = depacketization (state_with_run s.state None) [] extras.None

no_run : (b : Bool) (s : Assembly) → with_run_if b (begun s) ≡ begun s
no_run true s = refl
no_run false s = refl

-- a packet that begins an access unit, where the marker ended one of its timestamp right before it or not
step_first : (most t : ℕ) (closed : Option ℕ) (state : DepacketizerState) (unit : Option AccessUnitValue) (shut b : Bool) (ended : List AccessUnitValue) (expected : Option ℕ) (number : ℕ) (marker : Bool) (x : List ℕ) →
    is_closed_at closed t ≡ shut → is_expected expected number ≡ b → is_unit_at unit t ≡ false →
    (let s = at_gap false closed state expected unit ended in
    let follow = cond shut false b in
    after_taken_rtp most s (number, rtp_body t marker x) ≡ stepped most t true follow (begun s) (ended ++ given_out (follow && is_run_closed state.run) unit) number marker x)
step_first most t closed state None true true ended expected number marker x at is other = rw (at, is) refl
step_first most t closed state None true false ended expected number marker x at is other = rw (at, is) refl
step_first most t closed state None false true ended expected number marker x at is other = rw (at, is) refl
step_first most t closed state None false false ended expected number marker x at is other = rw (at, is) refl
step_first most t closed state (Some u) true true ended expected number marker x at is other = rw (other, at, is) refl
step_first most t closed state (Some u) true false ended expected number marker x at is other = rw (other, at, is) refl
step_first most t closed state (Some u) false true ended expected number marker x at is other = rw (other, at, is) refl
step_first most t closed state (Some u) false false ended expected number marker x at is other = rw (other, at, is) refl

-- what is left of an access unit, of which this much stands
abbrev pub grown : ℕ → ℕ → Bool → Bool → Depacketization → List Bool → List (List ℕ) → AccessUnitValue
grown most t whole b w mask packets = unit_of t (after_kept_packets most w mask packets)
    (whole && (b && (list_all (λ came. came) mask && (are_runs_within w.state.format most w.state.run packets && are_used w.state.format w.state.run packets))))

-- what is open is of this timestamp, and its last packet is missing
abbrev pub IsLeftOpen : Option ℕ → Option AccessUnitValue → Option ℕ → ℕ → Type 0
IsLeftOpen stamp None e q = Unit {0}
IsLeftOpen stamp (Some unit) e q = (stamp ≡ Some unit.timestamp) × IsBehind e q

-- an assembler after the packets of a call
pub record IsLeft (first t : ℕ) (last : Bool) (e : Option ℕ) (q : ℕ) (f : Format) (avc : Bool) (units : List AccessUnitValue) (new : Assembly) : Type 0 where
  pub all : new.ended ++ given_out false new.unit ≡ units
  pub expected : new.expected ≡ expected_at first e
  pub gap : new.is_gap ≡ false
  pub closed : new.closed ≡ cond last (Some t) None
  pub open_unit : IsLeftOpen (cond last None (Some t)) new.unit e q
  pub format : new.state.format ≡ f
  pub avc_is : new.state.is_avc ≡ avc

and_false : (b : Bool) → (b && false) ≡ false
and_false true = refl
and_false false = refl

-- a run that is not too long stays
pub short_run : (most : ℕ) (run : Option (List ℕ)) → nat_lt most (run_len run) ≡ false → run_within most run ≡ run
short_run most None short = refl
short_run most (Some run) short = rw short refl

-- a unit is written with bytes
prefix_long : (avc : Bool) (u : List ℕ) (units : List (List ℕ)) → 0 < length (byte_stream avc (u ∷ units))
prefix_long true u units = omega arith
prefix_long false u units = omega arith

-- where a text is no longer than before no unit was written
no_longer : (avc : Bool) (out : List ℕ) (units : List (List ℕ)) → (length out == length (out ++ byte_stream avc units)) ≡ cond (is_some_unit units) false true
no_longer avc out [] = let same = append-nil out in rw same (same_place (length out))
no_longer avc out (u ∷ units) =
    let both = length-append out (byte_stream avc (u ∷ units)) in
    let some = prefix_long avc u units in
    grind (arith, nat_tests, both, some)

-- so no byte stands of a packet
drops_is : (w : Depacketization) (x : List ℕ) → drops w x ≡ is_unused w.state.format w.state.run x
drops_is w x =
    let units = reading_units w.state.run (w.state.format.read x) in
    let run = run_after w.state.run (w.state.format.read x) in
    ap (λ (l : List (List ℕ)). (length w.out == length (w.out ++ byte_stream w.state.is_avc l)) && is_run_closed run) (append-nil units)
    ∙ ap (λ (b : Bool). b && is_run_closed run) (no_longer w.state.is_avc w.out units)
    ∙ elim (is_some_unit units) as (λ b. (cond b false true && is_run_closed run) ≡ cond b false (is_run_closed run)) [ true ↦ refl | false ↦ refl ]

-- and so it breaks a unit
breaks_is : (w : Depacketization) (x : List ℕ) →
    breaks w x ≡ (gives_up_run w.state.run (w.state.format.read x) || is_unused w.state.format w.state.run x)
breaks_is w x = ap (λ (d : Bool). gives_up_run w.state.run (w.state.format.read x) || d) (drops_is w x)

-- the last packet of an access unit
closing : (long broken whole b c d : Bool) → (long ≡ false → c ≡ d) →
    ((whole && sound_bit long broken b) && c) ≡ (whole && (b && ((true && true) && (cond long false true && cond broken false d))))
closing long broken false b c d h = refl
closing true broken true true c d h = refl
closing true broken true false c d h = refl
closing false true true true c d h = refl
closing false true true false c d h = refl
closing false false true true c d h = h refl
closing false false true false c d h = refl

no_more : (b : Bool) → false ≡ (b && false)
no_more true = refl
no_more false = refl

-- one that is not the last
going_on : (long broken whole b all x y u v : Bool) → (long ≡ false → x ≡ y) → (long ≡ false → u ≡ v) →
    ((whole && sound_bit long broken b) && (true && (all && (x && u)))) ≡ (whole && (b && ((true && all) && (cond long false y && cond broken false v))))
going_on long broken false b all x y u v h k = refl
going_on true broken true true true x y u v h k = refl
going_on true broken true true false x y u v h k = refl
going_on true broken true false all x y u v h k = refl
going_on false true true true true x y u v h k = no_more y
going_on false true true true false x y u v h k = refl
going_on false true true false all x y u v h k = refl
going_on false false true true all x y u v h k = ap (λ (z : Bool). all && (z && u)) (h refl) ∙ ap (λ (z : Bool). all && (y && z)) (k refl)
going_on false false true false all x y u v h k = refl

-- one packet, and then others
from_step : (most first p q t : ℕ) (whole b : Bool) (w : Depacketization) (ended : List AccessUnitValue) (x : List ℕ) (packets : List (List ℕ)) (mask : List Bool) →
    length mask ≡ length packets →
    (let holds = whole && sound_bit (is_long most w x) (breaks w x) b in
    (has_none packets ≡ false → IsLeft first t (last_came false mask) (expected_after (Some (p + 1)) (p + 1) mask) q w.state.format w.state.is_avc
    (ended ++ grown most t holds true (next_work most w x) mask packets ∷ [])
    (after_all_taken most (opened first (Some (p + 1)) t (next_work most w x) holds ended) (kept_from first (p + 1) mask (unit_bodies t packets)))) →
    IsLeft first t (last_came true mask) (expected_after (Some (p + 1)) (p + 1) mask) q w.state.format w.state.is_avc (ended ++ grown most t whole b w (true ∷ mask) (x ∷ packets) ∷ [])
    (after_all_taken most (stepped most t whole b w ended (number_at first p) (has_none packets) x) (kept_from first (p + 1) mask (unit_bodies t packets))))
from_step most first p q t whole b w ended x [] (m ∷ mask) long = λ later. absurd (omega arith)
from_step most first p q t whole b w ended x (y ∷ packets) [] long = λ later. absurd (omega arith)
from_step most first p q t whole b w ended x [] [] long = λ later.
    let run = run_after w.state.run (w.state.format.read x) in
    let unit = next_unit most t whole b w x in
    let next = next_work most w x in
    let too_long = is_long most w x in
    record {
      all = append-nil (ended ++ whole_if (is_run_closed next.state.run) unit ∷ [])
          ∙ ap (λ (is : Bool). ended ++ unit_of t next is ∷ [])
          (closing too_long (breaks w x) whole b (is_run_closed (run_within most run)) (is_run_closed run) (λ short. ap is_run_closed (short_run most run short))
          ∙ ap (λ (d : Bool). whole && (b && ((true && true) && (cond too_long false true && cond d false (is_run_closed run))))) (breaks_is w x));
      expected = ap Some (next_number first p);
      gap = refl;
      closed = refl;
      open_unit = tt;
      format = refl;
      avc_is = refl;
    }
from_step most first p q t whole b w ended x (y ∷ packets) (m ∷ mask) long = λ later.
    let rest = y ∷ packets in
    let f = w.state.format in
    let too_long = is_long most w x in
    let last = last_came false (m ∷ mask) in
    let kept = kept_from first (p + 1) (m ∷ mask) (unit_bodies t rest) in
    let next = next_work most w x in
    let holds = whole && sound_bit too_long (breaks w x) b in
    let e_next = expected_after (Some (p + 1)) (p + 1) (m ∷ mask) in
    let new : opened first (Some (p + 1)) t next holds ended ≡ stepped most t whole b w ended (number_at first p) false x =
    ap (λ (n : ℕ). assembly next.state (Some n) (Some (unit_of t next holds)) ended) (sym (next_number first p))
    ∙ ap (λ (l : List AccessUnitValue). assembly next.state (Some (next_sequence_number (number_at first p))) (Some (unit_of t next holds)) l) (sym (append-nil ended)) in
    let run = run_after w.state.run (f.read x) in
    let all = list_all (λ came. came) (m ∷ mask) in
    let same : grown most t holds true next (m ∷ mask) rest ≡ grown most t whole b w (true ∷ m ∷ mask) (x ∷ rest) =
    ap (unit_of t (after_kept_packets most next (m ∷ mask) rest))
    (going_on too_long (breaks w x) whole b all (are_runs_within f most (run_within most run) rest) (are_runs_within f most run rest)
    (are_used f (run_within most run) rest) (are_used f run rest)
    (λ short. ap (λ (r : Option (List ℕ)). are_runs_within f most r rest) (short_run most run short))
    (λ short. ap (λ (r : Option (List ℕ)). are_used f r rest) (short_run most run short))
    ∙ ap (λ (d : Bool). whole && (b && ((true && all) && (cond too_long false (are_runs_within f most run rest) && cond d false (are_used f run rest))))) (breaks_is w x)) in
    subst (λ (s : Assembly). IsLeft first t last e_next q f w.state.is_avc (ended ++ grown most t whole b w (true ∷ m ∷ mask) (x ∷ rest) ∷ []) (after_all_taken most s kept)) new
    (subst (λ (u : AccessUnitValue). IsLeft first t last e_next q f w.state.is_avc (ended ++ u ∷ []) (after_all_taken most (opened first (Some (p + 1)) t next holds ended) kept)) same
    (later refl))

-- the number of a place that is next tells whether it is the one expected
pub follows_at : (first : ℕ) (e : Option ℕ) (p : ℕ) → IsNextPlace e p → is_expected (expected_at first e) (number_at first p) ≡ is_place e p
follows_at first e p next = (on_place first e p (next_near e p next) (next_in_time first e p next)).1

-- the rest of an access unit
pub goes_on : (most first p q t : ℕ) (e : Option ℕ) (w : Depacketization) (whole : Bool) (ended : List AccessUnitValue) (mask : List Bool) (packets : List (List ℕ)) →
    length mask ≡ length packets → q ≡ p + length packets → AreGapsShort e p mask → IsOn e p → (has_none packets ≡ true → IsBehind e p) →
    IsLeft first t (last_came false mask) (expected_after e p mask) q w.state.format w.state.is_avc (ended ++ grown most t whole (is_place e p) (with_run_if (is_place e p) w) mask packets ∷ [])
    (after_all_taken most (opened first e t w whole ended) (kept_from first p mask (unit_bodies t packets)))
goes_on most first p q t e w whole ended (m ∷ mask) [] long is gaps on none = absurd (omega arith)
goes_on most first p q t e w whole ended [] (x ∷ packets) long is gaps on none = absurd (omega arith)
goes_on most first p q t e w whole ended [] [] long is gaps on none = record {
  all = ap (λ (b : Bool). ended ++ unit_of t w (whole && (b && (true && (true && is_run_closed (with_run_if b w).state.run)))) ∷ []) (sym (not_place e p (none refl)));
  expected = refl;
  gap = refl;
  closed = refl;
  open_unit = (refl, behind_more e p q (omega arith) (none refl));
  format = refl;
  avc_is = refl;
}
goes_on most first p q t e w whole ended (false ∷ mask) (x ∷ packets) long is gaps on none =
    let b = is_place e p in
    let here = with_run_if b w in
    let rest = goes_on most first (p + 1) q t e w whole ended mask packets (omega arith) (omega arith) gaps (on_next e p on) (λ last. behind_next e p on) in
    let kept = kept_from first (p + 1) mask (unit_bodies t packets) in
    let same : grown most t whole (is_place e (p + 1)) (with_run_if (is_place e (p + 1)) w) mask packets ≡ grown most t whole b here (false ∷ mask) (x ∷ packets) =
    ap (λ (c : Bool). grown most t whole c (with_run_if c w) mask packets) (not_place e (p + 1) (behind_next e p on))
    ∙ ap (λ (c : Bool). unit_of t (after_kept_packets most (without_open_run w) mask packets) (whole && c)) (sym (and_false b)) in
    subst (λ (u : AccessUnitValue). IsLeft first t (last_came false mask) (expected_after e (p + 1) mask) q w.state.format w.state.is_avc (ended ++ u ∷ []) (after_all_taken most (opened first e t w whole ended) kept)) same rest
goes_on most first p q t e w whole ended (true ∷ mask) (x ∷ packets) long is gaps on none =
    let b = is_place e p in
    let here = with_run_if b w in
    let next = next_work most here x in
    let holds = whole && sound_bit (is_long most here x) (breaks here x) b in
    let kept = kept_from first (p + 1) mask (unit_bodies t packets) in
    let step = step_on most t w whole b ended (expected_at first e) (number_at first p) (has_none packets) x (follows_at first e p gaps.0) in
    subst (λ (s : Assembly). IsLeft first t (last_came true mask) (expected_after (Some (p + 1)) (p + 1) mask) q w.state.format w.state.is_avc (ended ++ grown most t whole b here (true ∷ mask) (x ∷ packets) ∷ []) (after_all_taken most s kept)) (sym step)
    (from_step most first p q t whole b here ended x packets mask (omega arith)
    (λ more. subst (λ (c : Bool). IsLeft first t (last_came false mask) (expected_after (Some (p + 1)) (p + 1) mask) q w.state.format w.state.is_avc (ended ++ grown most t holds c (with_run_if c next) mask packets ∷ []) (after_all_taken most (opened first (Some (p + 1)) t next holds ended) kept))
    (same_place (p + 1))
    (goes_on most first (p + 1) q t (Some (p + 1)) next holds ended mask packets (omega arith) (omega arith) gaps.1 (omega arith) (λ none. absurd (let bad = sym more ∙ none in cc)))))

-- what was open is given out as not whole where its last packet is missing
given_same : (stamp : Option ℕ) (p : ℕ) (e : Option ℕ) (shut c : Bool) (unit : Option AccessUnitValue) → IsLeftOpen stamp unit e p → given_out (cond shut false (is_place e p) && c) unit ≡ given_out false unit
given_same stamp p e shut c None left = refl
given_same stamp p e shut c (Some unit) left =
    ap (λ (b : Bool). given_out (cond shut false b && c) (Some unit)) (not_place e p left.1)
    ∙ ap (λ (b : Bool). given_out (b && c) (Some unit)) (never shut)

-- at a later place too
pub left_more : (stamp : Option ℕ) (p q : ℕ) (e : Option ℕ) (unit : Option AccessUnitValue) → p ≤ q → IsLeftOpen stamp unit e p → IsLeftOpen stamp unit e q
left_more stamp p q e None le left = tt
left_more stamp p q e (Some unit) le left = (left.0, behind_more e p q le left.1)

-- the packets of a call, of which some came
pub begins : (most first p q t : ℕ) (stamp closed : Option ℕ) (e : Option ℕ) (state : DepacketizerState) (unit : Option AccessUnitValue) (ended : List AccessUnitValue) (mask : List Bool) (packets : List (List ℕ)) →
    length mask ≡ length packets → q ≡ p + length packets → list_any (λ came. came) mask ≡ true → is_unit_at unit t ≡ false → IsLeftOpen stamp unit e p → AreGapsShort e p mask → IsOn e p →
    (let s = at_gap false closed state (expected_at first e) unit ended in
    IsLeft first t (last_came false mask) (expected_after e p mask) q state.format state.is_avc
    ((ended ++ given_out false unit) ++ grown most t true (cond (is_closed_at closed t) false (is_place e p)) (begun s) mask packets ∷ [])
    (after_all_taken most s (kept_from first p mask (unit_bodies t packets))))
begins most first p q t stamp closed e state unit ended [] packets long is some other left gaps on = absurd (let bad = some in cc)
begins most first p q t stamp closed e state unit ended (m ∷ mask) [] long is some other left gaps on = absurd (omega arith)
begins most first p q t stamp closed e state unit ended (false ∷ mask) (x ∷ packets) long is some other left gaps on =
    let s = at_gap false closed state (expected_at first e) unit ended in
    let shut = is_closed_at closed t in
    let b = cond shut false (is_place e p) in
    let rest = begins most first (p + 1) q t stamp closed e state unit ended mask packets (omega arith) (omega arith) some other (left_more stamp p (p + 1) e unit (omega arith) left) gaps (on_next e p on) in
    let kept = kept_from first (p + 1) mask (unit_bodies t packets) in
    let same : grown most t true (cond shut false (is_place e (p + 1))) (begun s) mask packets ≡ grown most t true b (begun s) (false ∷ mask) (x ∷ packets) =
    ap (λ (c : Bool). grown most t true (cond shut false c) (begun s) mask packets) (not_place e (p + 1) (behind_next e p on))
    ∙ ap (λ (c : Bool). grown most t true c (begun s) mask packets) (never shut)
    ∙ ap (λ (c : Bool). unit_of t (after_kept_packets most (begun s) mask packets) c) (sym (and_false b)) in
    subst (λ (u : AccessUnitValue). IsLeft first t (last_came false mask) (expected_after e (p + 1) mask) q state.format state.is_avc ((ended ++ given_out false unit) ++ u ∷ []) (after_all_taken most s kept)) same rest
begins most first p q t stamp closed e state unit ended (true ∷ mask) (x ∷ packets) long is some other left gaps on =
    let s = at_gap false closed state (expected_at first e) unit ended in
    let shut = is_closed_at closed t in
    let b = cond shut false (is_place e p) in
    let w = begun s in
    let next = next_work most w x in
    let holds = true && sound_bit (is_long most w x) (breaks w x) b in
    let all = ended ++ given_out false unit in
    let kept = kept_from first (p + 1) mask (unit_bodies t packets) in
    let e_next = expected_after (Some (p + 1)) (p + 1) mask in
    let step : after_taken_rtp most s (number_at first p, rtp_body t (has_none packets) x) ≡ stepped most t true b w all (number_at first p) (has_none packets) x =
    step_first most t closed state unit shut (is_place e p) ended (expected_at first e) (number_at first p) (has_none packets) x refl (follows_at first e p gaps.0) other
    ∙ ap (λ (l : List AccessUnitValue). stepped most t true b w (ended ++ l) (number_at first p) (has_none packets) x) (given_same stamp p e shut (is_run_closed state.run) unit left) in
    subst (λ (s : Assembly). IsLeft first t (last_came true mask) e_next q w.state.format w.state.is_avc (all ++ grown most t true b w (true ∷ mask) (x ∷ packets) ∷ []) (after_all_taken most s kept)) (sym step)
    (from_step most first p q t true b w all x packets mask (omega arith)
    (λ more. subst (λ (c : Bool). IsLeft first t (last_came false mask) e_next q w.state.format w.state.is_avc (all ++ grown most t holds c (with_run_if c next) mask packets ∷ []) (after_all_taken most (opened first (Some (p + 1)) t next holds all) kept))
    (same_place (p + 1))
    (goes_on most first (p + 1) q t (Some (p + 1)) next holds all mask packets (omega arith) (omega arith) gaps.1 (omega arith) (λ none. absurd (let bad = sym more ∙ none in cc)))))

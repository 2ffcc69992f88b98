-- Packets of one timestamp, one behind the other, are those of an access unit that was sent.
use Rattle.std.proofs.Common.{◌≡◌, ◌∙◌, ap, sym, subst, refl, ℕ, zero, suc, ◌+◌, ◌≤◌, ◌<◌, true, false, List, [], ◌∷◌, ◌++◌, length, take, drop, arith, length-append}
use Rattle.std.specs.Prelude.{◌-◌, nat_lt, map}
use Rattle.std.specs.List.{Contains}
use Rattle.std.proofs.lemmas.Bool.Decides.{nat_tests}
use Rattle.h26x_core.specs.declared.extra.CodecExtra.{CodecExtra}
use Rattle.h26x_core.specs.declared.extra.CodecExtra.TheVariants as extras
use Rattle.h26x_core.specs.ByteStream.{byte_stream}
use Rattle.h26x_model.specs.Carry.Laws.{CarriesWhole}
use Rattle.h26x_model.specs.Payload.Extra.{extra_after}
use Rattle.h26x_model.specs.Payload.Format.{Format}
use Rattle.h26x_model.specs.Send.PacketizerState.{PacketizerState, IsPacketizerState, state_units, calls_units}
use Rattle.h26x_model.specs.Send.Calls.{Call, AreCalls, all_entries}
use Rattle.h26x_model.specs.Payload.Facts.{IsPayloadFormat, AreCarried}
use Rattle.h26x_model.specs.Receive.DepacketizerState.{DepacketizerState, Depacketization}
use Rattle.h26x_reorder.specs.Rtp.{RtpBody}
use Rattle.h26x_assembler.specs.StampedCalls.{StampedCall, AreStreamed, IsOtherStamp, access_unit_packets, after_call, unit_bodies, sent_bodies, sent_unit, sent_units}
use Rattle.h26x_assembler.specs.AccessUnit.{AccessUnitValue}
use Rattle.h26x_assembler.proofs.StreamLemmas.{GoesOn, next_call}
use Rattle.h26x_assembler.specs.AnyUnits.{SentPackets, any_bodies}
use Rattle.h26x_access_units.specs.ReceivedAccessUnit.{ReceivedAccessUnitValue}
use Rattle.h26x_access_units.specs.WholeSent.{nothing_written, sent_at, sent_payloads, IsUnitFront, IsWrittenOf, WasSent}
use Rattle.h26x_access_units.specs.UnitsSent.{sent_packets, call_units, told_unit, first_stamp, AreNeighboursApart, IsOneSent, IsWrittenAsSent}

abbrev Bodies : Type 0
Bodies = List RtpBody

-- places of a list of two parts
at_left : (xs ys : Bodies) (k : ℕ) → k < length xs → sent_at (xs ++ ys) k ≡ sent_at xs k
at_left [] ys k lt = absurd (omega (arith, lt))
at_left (x ∷ xs) ys zero lt = refl
at_left (x ∷ xs) ys (suc k) lt = at_left xs ys k (omega (arith, lt))

at_right : (xs ys : Bodies) (k m : ℕ) → m ≡ length xs + k → sent_at (xs ++ ys) m ≡ sent_at ys k
at_right [] ys k m is = ap (sent_at ys) (let e : m ≡ k = omega (arith, is) in e)
at_right (x ∷ xs) ys k zero is = absurd (omega (arith, is))
at_right (x ∷ xs) ys k (suc m) is = at_right xs ys k m (omega (arith, is))

drop_right : (xs ys : Bodies) (k m : ℕ) → m ≡ length xs + k → drop m (xs ++ ys) ≡ drop k ys
drop_right [] ys k m is = ap (λ (x : ℕ). drop x ys) (let e : m ≡ k = omega (arith, is) in e)
drop_right (x ∷ xs) ys k zero is = absurd (omega (arith, is))
drop_right (x ∷ xs) ys k (suc m) is = drop_right xs ys k m (omega (arith, is))

take_left : (xs ys : Bodies) (m : ℕ) → m ≡ length xs → take m (xs ++ ys) ≡ xs
take_left [] ys zero is = refl
take_left [] ys (suc m) is = absurd (omega (arith, is))
take_left (x ∷ xs) ys zero is = absurd (omega (arith, is))
take_left (x ∷ xs) ys (suc m) is = ap (λ (l : Bodies). x ∷ l) (take_left xs ys m (omega (arith, is)))

-- the packets of one access unit
bodies_len : (timestamp : ℕ) (packets : List (List ℕ)) → length (unit_bodies timestamp packets) ≡ length packets
bodies_len timestamp [] = refl
bodies_len timestamp (p ∷ packets) = let rest = bodies_len timestamp packets in omega (arith, rest)

bodies_stamp : (timestamp : ℕ) (packets : List (List ℕ)) (k : ℕ) → k < length packets → (sent_at (unit_bodies timestamp packets) k).timestamp ≡ timestamp
bodies_stamp timestamp [] k lt = absurd (omega (arith, lt))
bodies_stamp timestamp (p ∷ packets) zero lt = refl
bodies_stamp timestamp (p ∷ packets) (suc k) lt = bodies_stamp timestamp packets k (omega (arith, lt))

bodies_payloads : (timestamp : ℕ) (packets : List (List ℕ)) → map (λ p. p.payload) (unit_bodies timestamp packets) ≡ packets
bodies_payloads timestamp [] = refl
bodies_payloads timestamp (p ∷ packets) = ap (λ (l : List (List ℕ)). p ∷ l) (bodies_payloads timestamp packets)

-- one of these is at a place
record Found (units : List SentPackets) (timestamp place count : ℕ) : Type 0 where
  sent : SentPackets
  among : Contains units sent
  stamp : sent.timestamp ≡ timestamp
  payloads : sent_payloads (any_bodies units) place count ≡ sent.packets

-- the first of those behind has another timestamp
next_other : (units : List SentPackets) (timestamp : ℕ) → AreNeighboursApart units → IsOtherStamp (first_stamp units) timestamp → 0 < length (any_bodies units) → (sent_at (any_bodies units) 0).timestamp ≡ timestamp → ⊥
next_other [] timestamp apart other lt is = absurd (omega (arith, lt))
next_other (u ∷ units) timestamp apart other lt is =
    let len = bodies_len u.timestamp u.packets in
    let some = apart.0 in
    other (sym (bodies_stamp u.timestamp u.packets 0 apart.0) ∙ ap (λ (b : RtpBody). b.timestamp) (sym (at_left (unit_bodies u.timestamp u.packets) (any_bodies units) 0 (omega (arith, len, some)))) ∙ is)

further_in : (u v : SentPackets) (units : List SentPackets) → Contains units v → Contains (u ∷ units) v
further_in u v units (k, lt, is) = (suc k, omega (arith, lt), is)

-- so of those behind the first, at any place
abbrev Later : List SentPackets → ℕ → ℕ → Type 0
Later units timestamp count = (x : ℕ) → x + count ≤ length (any_bodies units) → ((k : ℕ) → k < count → (sent_at (any_bodies units) (x + k)).timestamp ≡ timestamp) → IsUnitFront (any_bodies units) x →
    (x + count < length (any_bodies units) → (sent_at (any_bodies units) (x + count)).timestamp ≡ timestamp → ⊥) → Found units timestamp x count

found : (units : List SentPackets) (timestamp place count : ℕ) → AreNeighboursApart units → 0 < count → place + count ≤ length (any_bodies units) → ((k : ℕ) → k < count → (sent_at (any_bodies units) (place + k)).timestamp ≡ timestamp) →
    IsUnitFront (any_bodies units) place → (place + count < length (any_bodies units) → (sent_at (any_bodies units) (place + count)).timestamp ≡ timestamp → ⊥) → Found units timestamp place count
found [] timestamp place count apart some within stamps front back = absurd (omega (arith, some, within))
found (u ∷ units) timestamp place count apart some within stamps front back =
    elim (nat_lt place (length u.packets)) as (λ b. nat_lt place (length u.packets) ≡ b → Found (u ∷ units) timestamp place count) [
      | true ↦ λ e. here (grind (arith, nat_tests))
      | false ↦ λ e. further (λ x inside each begins ends. found units timestamp x count apart.2 some inside each begins ends) (grind (arith, nat_tests))
    ] refl
  where
    own : Bodies
    own = unit_bodies u.timestamp u.packets

    rest : Bodies
    rest = any_bodies units

    len : length (unit_bodies u.timestamp u.packets) ≡ length u.packets
    len = bodies_len u.timestamp u.packets

    all_len : length (unit_bodies u.timestamp u.packets ++ any_bodies units) ≡ length u.packets + length (any_bodies units)
    all_len = let both = length-append (unit_bodies u.timestamp u.packets) (any_bodies units) in omega (arith, both, len)

    own_at : (k : ℕ) → k < length u.packets → (sent_at (unit_bodies u.timestamp u.packets ++ any_bodies units) k).timestamp ≡ u.timestamp
    own_at k lt = ap (λ (b : RtpBody). b.timestamp) (at_left (unit_bodies u.timestamp u.packets) (any_bodies units) k (omega (arith, len, lt))) ∙ bodies_stamp u.timestamp u.packets k lt

    rest_at : (k m : ℕ) → m ≡ length u.packets + k → sent_at (unit_bodies u.timestamp u.packets ++ any_bodies units) m ≡ sent_at (any_bodies units) k
    rest_at k m is = at_right (unit_bodies u.timestamp u.packets) (any_bodies units) k m (omega (arith, len, is))

    here : place < length u.packets → Found (u ∷ units) timestamp place count
    here lt = from place refl
      where
        from : (x : ℕ) → place ≡ x → Found (u ∷ units) timestamp place count
        from (suc x) e = absurd (front x (omega (arith, e)) (own_at x (omega (arith, e, lt)) ∙ sym (own_at place lt)))
        from zero e =
            let stamp : u.timestamp ≡ timestamp = sym (own_at place lt) ∙ ap (λ (x : ℕ). (sent_at (unit_bodies u.timestamp u.packets ++ any_bodies units) x).timestamp) (omega arith) ∙ stamps 0 some in
            elim (nat_lt count (length u.packets)) as (λ b. nat_lt count (length u.packets) ≡ b → Found (u ∷ units) timestamp place count) [
              | true ↦ λ less.
                  let few : count < length u.packets = grind (arith, nat_tests) in
                  let at : place + count ≡ count = omega (arith, e) in
                  absurd (back (omega (arith, at, few, all_len)) (ap (λ (x : ℕ). (sent_at (unit_bodies u.timestamp u.packets ++ any_bodies units) x).timestamp) at ∙ own_at count few ∙ stamp))
              | false ↦ λ e_less. elim (nat_lt (length u.packets) count) as (λ b. nat_lt (length u.packets) count ≡ b → Found (u ∷ units) timestamp place count) [
                | true ↦ λ more.
                    let many : length u.packets < count = grind (arith, nat_tests) in
                    let is : place + length u.packets ≡ length u.packets + 0 = omega (arith, e) in
                    absurd (next_other units u.timestamp apart.2 apart.1 (omega (arith, e, within, many, all_len))
                    (sym (ap (λ (b : RtpBody). b.timestamp) (rest_at 0 (place + length u.packets) is)) ∙ stamps (length u.packets) many ∙ sym stamp))
                | false ↦ λ e_more.
                    let same : count ≡ length u.packets = grind (arith, nat_tests) in
                    record {
                      sent = u;
                      among = (zero, omega arith, refl);
                      stamp = stamp;
                      payloads =
                          ap (λ (x : ℕ). map (λ p. p.payload) (take count (drop x (unit_bodies u.timestamp u.packets ++ any_bodies units)))) e
                          ∙ ap (map (λ p. p.payload)) (take_left (unit_bodies u.timestamp u.packets) (any_bodies units) count (omega (arith, same, len)))
                          ∙ bodies_payloads u.timestamp u.packets;
                    }
              ] refl
            ] refl

    further : Later units timestamp count → length u.packets ≤ place → Found (u ∷ units) timestamp place count
    further later le = from (place - length u.packets) (omega (arith, le))
      where
        from : (x : ℕ) → place ≡ length u.packets + x → Found (u ∷ units) timestamp place count
        from x e =
            let it = later x (omega (arith, e, within, all_len))
            (λ k lt. ap (λ (b : RtpBody). b.timestamp) (sym (rest_at (x + k) (place + k) (omega (arith, e)))) ∙ stamps k lt)
            (λ before is same. front (length u.packets + before) (omega (arith, is, e))
            (ap (λ (b : RtpBody). b.timestamp) (rest_at before (length u.packets + before) refl) ∙ same ∙ ap (λ (b : RtpBody). b.timestamp) (sym (rest_at x place e))))
            (λ lt same. back (omega (arith, e, lt, all_len)) (ap (λ (b : RtpBody). b.timestamp) (rest_at (x + count) (place + count) (omega (arith, e))) ∙ same)) in
            record {
              sent = it.sent;
              among = further_in u it.sent units it.among;
              stamp = it.stamp;
              payloads = ap (λ (l : Bodies). map (λ p. p.payload) (take count l)) (drop_right (unit_bodies u.timestamp u.packets) (any_bodies units) x place (omega (arith, e, len))) ∙ it.payloads;
            }

pub one_was_sent : (r : DepacketizerState) (units : List SentPackets) (first : ℕ) (unit : ReceivedAccessUnitValue) → AreNeighboursApart units → WasSent r (any_bodies units) first unit → IsOneSent r units unit
one_was_sent r units first unit apart it =
    let one = found units unit.timestamp it.place it.count apart it.some it.within it.stamps it.front it.back in
    record {
      sent = one.sent;
      among = one.among;
      timestamp = one.stamp;
      written = subst (λ (x : List (List ℕ)). IsWrittenOf r x unit) one.payloads it.written;
    }

pub written_as_sent : (s : PacketizerState) (r : DepacketizerState) (c : StampedCall) → r.format ≡ s.format → CarriesWhole s (nothing_written r) (c.call ∷ []) → IsWrittenAsSent s r c
written_as_sent s r c same carried = record {
  bytes = ap (byte_stream r.is_avc) carried.received;
  extra = ap (λ (l : List (List ℕ)). extra_after r.format extras.None l) carried.received ∙ ap (λ (f : Format). extra_after f extras.None (calls_units s (c.call ∷ []))) same;
}

-- the packets of calls are those of their access units
bodies_same : (s : PacketizerState) (calls : List StampedCall) → any_bodies (call_units s calls) ≡ sent_bodies s calls
bodies_same s [] = refl
bodies_same s (c ∷ calls) = ap (λ (l : Bodies). unit_bodies c.timestamp (access_unit_packets s c.call) ++ l) (bodies_same (after_call s c.call) calls)

-- the law of calls that are carried, as it stands in `h26x_model`
abbrev pub Carries : Type 0
Carries = (s : PacketizerState) (w : Depacketization) (calls : List Call) → IsPayloadFormat s.format → IsPacketizerState s → AreCalls calls → w.state.format ≡ s.format → AreCarried s.format (state_units s (all_entries s.format calls)) → CarriesWhole s w calls

-- one of these access units is that of a call
unit_of_call : (s : PacketizerState) (calls : List StampedCall) (r : DepacketizerState) (unit : ReceivedAccessUnitValue) (sent : SentPackets) → GoesOn → Carries → IsPayloadFormat s.format → r.format ≡ s.format → AreStreamed s calls →
    Contains (call_units s calls) sent → sent.timestamp ≡ unit.timestamp → IsWrittenOf r sent.packets unit → Contains (sent_units s r.is_avc calls) (told_unit unit)
unit_of_call s [] r unit sent goes carries ok same it (k, lt, is) stamp written = absurd (omega (arith, lt))
unit_of_call s (c ∷ calls) r unit sent goes carries ok same it (zero, lt, is) stamp written =
    let split = next_call s c calls goes ok it in
    let as_sent = written_as_sent s r c same (carries s (nothing_written r) (c.call ∷ []) ok it.sender (it.calls_are.0, tt) same split.carried) in
    let own = sent_packets c.timestamp (access_unit_packets s c.call) in
    let text = subst (λ (x : SentPackets). IsWrittenOf r x.packets unit) (sym is) written in
    let value : ℕ → List ℕ → CodecExtra → AccessUnitValue = λ t b e. record { timestamp = t; bytes = b; extra = e; is_whole = true } in (
      zero,
      omega arith,
      ap (λ (t : ℕ). value t (sent_unit s r.is_avc c).bytes (sent_unit s r.is_avc c).extra) (ap (λ (x : SentPackets). x.timestamp) is ∙ stamp)
          ∙ ap (λ (b : List ℕ). value unit.timestamp b (sent_unit s r.is_avc c).extra) (sym as_sent.bytes ∙ text.bytes)
          ∙ ap (value unit.timestamp unit.bytes) (sym as_sent.extra ∙ text.extra),
    )
unit_of_call s (c ∷ calls) r unit sent goes carries ok same it (suc k, lt, is) stamp written =
    let split = next_call s c calls goes ok it in
    let (j, less, there) = unit_of_call (after_call s c.call) calls r unit sent goes carries ok same split.streamed (k, omega (arith, lt), is) stamp written in
    (suc j, omega (arith, less), there)

pub calls_unit : (s : PacketizerState) (calls : List StampedCall) (r : DepacketizerState) (first : ℕ) (unit : ReceivedAccessUnitValue) → GoesOn → Carries → IsPayloadFormat s.format → r.format ≡ s.format → AreStreamed s calls → AreNeighboursApart (call_units s calls) →
    WasSent r (sent_bodies s calls) first unit → Contains (sent_units s r.is_avc calls) (told_unit unit)
calls_unit s calls r first unit goes carries ok same it apart was =
    let one = one_was_sent r (call_units s calls) first unit apart (subst (λ (l : Bodies). WasSent r l first unit) (sym (bodies_same s calls)) was) in
    unit_of_call s calls r unit one.sent goes carries ok same it one.among one.timestamp one.written

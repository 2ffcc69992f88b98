-- What is told to be whole is what was sent.
use Rattle.std.proofs.Common.{◌≡◌, ℕ, zero, suc, ◌+◌, ◌≤◌, Bool, true, false, cond, List, [], ◌∷◌, ◌++◌, length, length-append, take, drop, Option, None, refl, sym, ap, ◌∙◌, arith}
use Rattle.std.specs.Prelude.{◌&&◌, nat_lt}
use Rattle.std.specs.List.{list_any, list_all, AllByRecursion, Contains}
use Rattle.std.proofs.lemmas.Bool.Decides.{nat_tests}
use Rattle.h26x_core.specs.declared.extra.CodecExtra.{CodecExtra}
use Rattle.h26x_core.specs.declared.extra.CodecExtra.TheVariants as extras
use Rattle.h26x_core.specs.ByteStream.{byte_stream}
use Rattle.h26x_model.specs.Payload.Format.{Format}
use Rattle.h26x_model.specs.Payload.Extra.{extra_after}
use Rattle.h26x_model.specs.Payload.Facts.{IsPayloadFormat, HeadersTakeRoom, AreCarried}
use Rattle.h26x_model.specs.Send.Calls.{Call, AreCalls, all_entries}
use Rattle.h26x_model.specs.Send.PacketizerState.{PacketizerState, IsPacketizerState, state_units}
use Rattle.h26x_model.specs.Receive.Received.{run_after}
use Rattle.h26x_model.specs.Receive.DepacketizerState.{DepacketizerState, Depacketization, depacketization, after_packets}
use Rattle.h26x_model.specs.Receive.RunLimit.{run_len, with_run_within}
use Rattle.h26x_model.specs.Carry.Gaps.{whole_units, after_kept_packets}
use Rattle.h26x_model.specs.Carry.Laws.{DepacketizerGoesOn, CarriesWhole}
use Rattle.h26x_receiver.proofs.DeliveryLemmas.{DamagesNothing}
use Rattle.h26x_assembler.specs.AccessUnit.{AccessUnitValue, is_closed_at}
use Rattle.h26x_assembler.specs.StampedCalls.{StampedCall, access_unit_packets, after_call, unit_bodies, sent_bodies, are_runs_within, unit_left, last_came, closed_after, units_left, sent_unit, sent_units, packets_len, AreStreamed, IsSentIfWhole, IsLeftWhole}
use Rattle.h26x_assembler.proofs.UnitLemmas.{short_run}
use Rattle.h26x_assembler.proofs.StreamLemmas.{GoesOn, next_call, bodies_long, rest_long}

-- the laws of depacketizers that go on, and of calls that are carried, as they stand in `h26x_model`
abbrev pub TakesOn : Type 0
TakesOn = (w : Depacketization) → IsPayloadFormat w.state.format → DepacketizerGoesOn w

abbrev pub Carries : Type 0
Carries = (s : PacketizerState) (w : Depacketization) (calls : List Call) → IsPayloadFormat s.format → IsPacketizerState s → AreCalls calls → w.state.format ≡ s.format →
    AreCarried s.format (state_units s (all_entries s.format calls)) → CarriesWhole s w calls

-- both hold
left_true : (a b : Bool) → (a && b) ≡ true → a ≡ true
left_true true b is = refl
left_true false b is = absurd (let bad = is in cc)

right_true : (a b : Bool) → (a && b) ≡ true → b ≡ true
right_true true b is = is
right_true false b is = absurd (let bad = is in cc)

-- a test that fails
not_long : (long rest : Bool) → cond long false rest ≡ true → (long ≡ false) × (rest ≡ true)
not_long true rest is = absurd (let bad = is in cc)
not_long false rest is = (refl, is)

-- where all packets are kept and no run is too long, what stands is what stands after all
all_kept : (most : ℕ) (w : Depacketization) (mask : List Bool) (packets : List (List ℕ)) → TakesOn → IsPayloadFormat w.state.format → length mask ≡ length packets →
    list_all (λ came. came) mask ≡ true → are_runs_within w.state.format most w.state.run packets ≡ true → after_kept_packets most w mask packets ≡ after_packets w packets
all_kept most w [] [] on ok long all short = sym (on w ok).none
all_kept most w [] (x ∷ packets) on ok long all short = absurd (omega arith)
all_kept most w (m ∷ mask) [] on ok long all short = absurd (omega arith)
all_kept most w (false ∷ mask) (x ∷ packets) on ok long all short = absurd (let bad = all in cc)
all_kept most w (true ∷ mask) (x ∷ packets) on ok long all short =
    let run = run_after w.state.run (w.state.format.read x) in
    let next = after_packets w (x ∷ []) in
    let runs = not_long (nat_lt most (run_len run)) (are_runs_within w.state.format most run packets) short in
    let stays : with_run_within most next ≡ next = ap (λ (r : Option (List ℕ)). depacketization (record next.state { run = r }) next.out next.extra) (short_run most run runs.0) in
    ap (λ (v : Depacketization). after_kept_packets most v mask packets) stays
    ∙ all_kept most next mask packets on ok (omega arith) all runs.1
    ∙ (on w ok).more (x ∷ []) packets

-- an access unit that is told to be whole is the one that was sent
told_whole : (most : ℕ) (s : PacketizerState) (avc before : Bool) (c : StampedCall) (mask : List Bool) → DamagesNothing → TakesOn → Carries → IsPayloadFormat s.format → IsPacketizerState s →
    AreCalls (c.call ∷ []) → AreCarried s.format (state_units s (all_entries s.format (c.call ∷ []))) → length mask ≡ length (access_unit_packets s c.call) →
    (before && (list_all (λ came. came) mask && are_runs_within s.format most None (access_unit_packets s c.call))) ≡ true →
    (byte_stream avc (whole_units most s (c.call ∷ []) mask) ≡ (sent_unit s avc c).bytes) × (extra_after s.format extras.None (whole_units most s (c.call ∷ []) mask) ≡ (sent_unit s avc c).extra)
told_whole most s avc before c mask law on carry ok is small carried long told =
    let packets = access_unit_packets s c.call in
    let state : DepacketizerState = record { format = s.format; is_avc = avc; run = None } in
    let w = depacketization state [] extras.None in
    let both = right_true before (list_all (λ came. came) mask && are_runs_within s.format most None packets) told in
    let came = left_true (list_all (λ came. came) mask) (are_runs_within s.format most None packets) both in
    let short = right_true (list_all (λ came. came) mask) (are_runs_within s.format most None packets) both in
    let all = all_kept most w mask packets on ok long came short in
    let whole = law most s w (c.call ∷ []) ok is small refl carried mask long in
    let brought = (carry s w (c.call ∷ []) ok is small refl carried).received in (
      sym whole.written ∙ ap (λ (v : Depacketization). v.out) all ∙ ap (byte_stream avc) brought,
      sym whole.told ∙ ap (λ (v : Depacketization). v.extra) all ∙ ap (extra_after s.format extras.None) brought,
    )

-- one of others is one of more
behind_first : {X : Type 0} → (x y : X) (xs : List X) → Contains xs x → Contains (y ∷ xs) x
behind_first x y xs (k, within, same) = (suc k, omega arith, same)

-- so of units, each that is told to be whole
all_behind : (y : AccessUnitValue) (xs units : List AccessUnitValue) → AllByRecursion (IsSentIfWhole xs) units → AllByRecursion (IsSentIfWhole (y ∷ xs)) units
all_behind y xs [] all = tt
all_behind y xs (u ∷ units) all = (λ whole. behind_first u y xs (all.0 whole), all_behind y xs units all.1)

pub all_append : {A : Type 0} → (P : A → Type 0) (a b : List A) → AllByRecursion P a → AllByRecursion P b → AllByRecursion P (a ++ b)
all_append P [] b x y = y
all_append P (u ∷ a) b x y = (x.0, all_append P a b x.1 y)

-- what is left of one call
one_left : (most : ℕ) (s : PacketizerState) (avc before : Bool) (c : StampedCall) (mask : List Bool) (others : List AccessUnitValue) → DamagesNothing → TakesOn → Carries → IsPayloadFormat s.format →
    IsPacketizerState s → AreCalls (c.call ∷ []) → AreCarried s.format (state_units s (all_entries s.format (c.call ∷ []))) → length mask ≡ length (access_unit_packets s c.call) →
    AllByRecursion (IsSentIfWhole (sent_unit s avc c ∷ others)) (unit_left most s avc before c mask)
one_left most s avc before c mask others law on carry ok is small carried long =
    let units = whole_units most s (c.call ∷ []) mask in
    let holds = before && (list_all (λ came. came) mask && are_runs_within s.format most None (access_unit_packets s c.call)) in
    let value : List ℕ → CodecExtra → Bool → AccessUnitValue = λ text told whole. record {
      timestamp = c.timestamp;
      bytes = text;
      extra = told;
      is_whole = whole;
    } in
    let sent = sent_unit s avc c in
    elim (list_any (λ came. came) mask) as (λ b. AllByRecursion (IsSentIfWhole (sent ∷ others)) (cond b (value (byte_stream avc units) (extra_after s.format extras.None units) holds ∷ []) [])) [
      | true ↦ (
        λ whole.
            let same = told_whole most s avc before c mask law on carry ok is small carried long whole in
            let is_sent : value (byte_stream avc units) (extra_after s.format extras.None units) holds ≡ sent =
            ap (λ (x : List ℕ). value x (extra_after s.format extras.None units) holds) same.0 ∙ ap (λ (x : CodecExtra). value sent.bytes x holds) same.1 ∙ ap (value sent.bytes sent.extra) whole in
            (zero, omega arith, sym is_sent),
        tt,
      )
      | false ↦ tt
    ]

-- what is left of calls
pub all_left : (most : ℕ) (s : PacketizerState) (avc before : Bool) (closed : Option ℕ) (calls : List StampedCall) (mask : List Bool) → DamagesNothing → GoesOn → TakesOn → Carries → IsPayloadFormat s.format → AreStreamed s calls →
    length mask ≡ length (sent_bodies s calls) → AllByRecursion (IsSentIfWhole (sent_units s avc calls)) (units_left most s avc before closed calls mask)
all_left most s avc before closed [] mask law goes on carry ok it long = tt
all_left most s avc before closed (c ∷ calls) mask law goes on carry ok it long =
    let packets = access_unit_packets s c.call in
    let n = length packets in
    let next = after_call s c.call in
    let later = sent_bodies next calls in
    let many = bodies_long c.timestamp packets in
    let both = length-append (unit_bodies c.timestamp packets) later in
    let parts = rest_long n (length later) mask (omega (arith, long, both, many)) in
    let split = next_call s c calls goes ok it in
    let front = take n mask in
    let others = sent_units next avc calls in
    let begun = cond (is_closed_at closed c.timestamp) false before in
    let closed_next = closed_after closed c.timestamp front in
    let one = one_left most s avc begun c front others law on carry ok it.sender (it.calls_are.0, tt) split.carried parts.0 in
    let rest = all_left most next avc (last_came before front) closed_next calls (drop n mask) law goes on carry ok split.streamed parts.1 in
    all_append (IsSentIfWhole (sent_unit s avc c ∷ others)) (unit_left most s avc begun c front) (units_left most next avc (last_came before front) closed_next calls (drop n mask)) one
    (all_behind (sent_unit s avc c) others (units_left most next avc (last_came before front) closed_next calls (drop n mask)) rest)

-- a law of runs, as it stands in `h26x_model`
abbrev pub RunsGrow : Type 0
RunsGrow = (f : Format) → HeadersTakeRoom f → (run : Option (List ℕ)) (packet : List ℕ) → run_len (run_after run (f.read packet)) ≤ run_len run + length packet

-- no run is longer than all packets
short_runs : (f : Format) (most : ℕ) (run : Option (List ℕ)) (packets : List (List ℕ)) → RunsGrow → HeadersTakeRoom f → run_len run + packets_len packets ≤ most → are_runs_within f most run packets ≡ true
short_runs f most run [] grow headers short = refl
short_runs f most run (x ∷ packets) grow headers short =
    let next = run_after run (f.read x) in
    let more = grow f headers run x in
    let fits : nat_lt most (run_len next) ≡ false = let h : run_len next ≤ most = omega (arith, more, short) in grind (arith, nat_tests) in
    ap (λ (b : Bool). cond b false (are_runs_within f most next packets)) fits ∙ short_runs f most next packets grow headers (omega (arith, more, short))

-- an access unit each packet of which came, and the packet before them, is the one that was sent
pub left_whole : (most : ℕ) (s : PacketizerState) (avc : Bool) (c : StampedCall) (mask : List Bool) → DamagesNothing → TakesOn → Carries → RunsGrow → IsPayloadFormat s.format → IsPacketizerState s →
    AreCalls (c.call ∷ []) → AreCarried s.format (state_units s (all_entries s.format (c.call ∷ []))) → IsLeftWhole most s avc c mask
left_whole most s avc c mask law on carry grow ok is small carried = λ long some all short.
    let packets = access_unit_packets s c.call in
    let units = whole_units most s (c.call ∷ []) mask in
    let sent = sent_unit s avc c in
    let runs = short_runs s.format most None packets grow ok.headers (let h : packets_len packets ≤ most = short in omega (arith, h)) in
    let holds : (true && (list_all (λ came. came) mask && are_runs_within s.format most None packets)) ≡ true =
    ap (λ (b : Bool). true && (b && are_runs_within s.format most None packets)) all ∙ ap (λ (b : Bool). true && (true && b)) runs in
    let same = told_whole most s avc true c mask law on carry ok is small carried long holds in
    let value : List ℕ → CodecExtra → Bool → AccessUnitValue = λ text told whole. record {
      timestamp = c.timestamp;
      bytes = text;
      extra = told;
      is_whole = whole;
    } in
    ap (λ (b : Bool). cond b (value (byte_stream avc units) (extra_after s.format extras.None units) (true && (list_all (λ came. came) mask && are_runs_within s.format most None packets)) ∷ []) []) some
    ∙ ap (λ (b : Bool). value (byte_stream avc units) (extra_after s.format extras.None units) b ∷ []) holds
    ∙ ap (λ (x : List ℕ). value x (extra_after s.format extras.None units) true ∷ []) same.0
    ∙ ap (λ (x : CodecExtra). value sent.bytes x true ∷ []) same.1

-- What one packet that was taken leaves.
use Rattle.std.proofs.Common.{◌≡◌, ℕ, Bool, true, false, cond, eq-eqb, length, List, [], ◌∷◌, ◌++◌, Option, Some, None, Result, Ok, Err, refl, sym, ap, ◌∙◌, arith}
use Rattle.std.specs.Prelude.{◌==◌, ◌&&◌, ◌||◌, nat_lt, unwrap_or, is_some, MatchBool, IfOk}
use Rattle.std.specs.Option.{option_map}
use Rattle.std.proofs.lemmas.List.{append-nil}
use Rattle.std.proofs.lemmas.Bool.Decides.{nat_tests}
use Rattle.h26x_core.specs.declared.error.PacketError.{PacketError}
use Rattle.h26x_core.specs.declared.extra.CodecExtra.TheVariants as extras
use Rattle.h26x_model.specs.Payload.Format.{Format}
use Rattle.h26x_model.specs.Payload.Reading.{is_start}
use Rattle.h26x_model.specs.Receive.DepacketizerState.{DepacketizerState}
use Rattle.h26x_model.specs.Receive.RunLimit.{run_len, run_within, state_with_run}
use Rattle.h26x_receiver.specs.declared.received.Received.{Received}
use Rattle.h26x_receiver.specs.declared.received.Received.TheVariants.{InOrder, Gap, TooLong, Late}
use Rattle.h26x_core.specs.Sequence.{missing_count, distance_behind, is_late}
use Rattle.h26x_receiver.specs.Sequenced.{SequencedDepacketization, sequenced_depacketization, after_sequenced_packet, after_taken_packet, answer_by_missing, is_taken, IsSequencedAnswer, after_answer}
use Rattle.h26x_receiver.proofs.AnswerLemmas.{accepted}
use Rattle.h26x_reorder.specs.Rtp.{RtpBody, rtp_body}
use Rattle.h26x_assembler.specs.AccessUnit.{AccessUnitValue, OpenAccessUnitView, empty_unit, whole_if, Assembly, open_assembly, is_unit_at, taken_by, unit_with, given_out, is_run_too_long, is_following, is_run_closed, gives_up_run, is_unit_broken, after_taken_rtp}

-- an answer says whether the run was too long
long_of : (lost : ℕ) (long : Bool) → is_run_too_long (accepted (answer_by_missing lost long)) ≡ long
long_of lost true = refl
long_of lost false = elim (lost == 0) as (λ b. is_run_too_long (accepted (cond b InOrder (Gap lost))) ≡ false) [ true ↦ refl | false ↦ refl ]

long_at : (late : Bool) (r : Result Received PacketError) (P : Type 0) (n lost : ℕ) (long : Bool) → is_taken r ≡ true →
    MatchBool late (r ≡ accepted (Late n)) (P × IfOk r (λ it. it ≡ answer_by_missing lost long)) → is_run_too_long r ≡ long
long_at true r P n lost long taken is = absurd (let bad = sym taken ∙ ap is_taken is in cc)
long_at false (Err e) P n lost long taken is = absurd (let bad = taken in cc)
long_at false (Ok a) P n lost long taken is = ap (λ (x : Received). is_run_too_long (accepted x)) is.1 ∙ long_of lost long

-- so where a packet was taken
answer_long : (most : ℕ) (s : SequencedDepacketization) (number : ℕ) (packet : List ℕ) (r : Result Received PacketError) → is_taken r ≡ true → IsSequencedAnswer most s number packet r →
    is_run_too_long r ≡ nat_lt most (run_len (after_sequenced_packet s number packet).state.run)
answer_long most s number packet r taken is =
    long_at (is_late s.expected number) r _ (distance_behind s.expected number) (missing_count s.expected number) (nat_lt most (run_len (after_sequenced_packet s number packet).state.run)) taken is

-- what stands after an answer that says so
pub taken_work : (most : ℕ) (s : SequencedDepacketization) (number : ℕ) (packet : List ℕ) (r : Result Received PacketError) → is_taken r ≡ true →
    after_answer most s number packet r ≡ after_taken_packet most s number packet
taken_work most s number packet (Err e) taken = absurd (let bad = taken in cc)
taken_work most s number packet (Ok InOrder) taken = refl
taken_work most s number packet (Ok (Gap n)) taken = refl
taken_work most s number packet (Ok (TooLong n)) taken = refl
taken_work most s number packet (Ok (Late n)) taken = absurd (let bad = taken in cc)

-- an access unit with what a packet left
abbrev pub filled : AccessUnitValue → SequencedDepacketization → AccessUnitValue
filled unit work = record unit { bytes = work.at_work.out; extra = work.at_work.extra }

-- an assembler with this access unit, which has ended or not
abbrev pub with_unit : SequencedDepacketization → List AccessUnitValue → ℕ → Bool → AccessUnitValue → Assembly
with_unit work ended t marker unit = record {
  state = work.at_work.state;
  expected = work.expected;
  is_gap = false;
  closed = cond marker (Some t) None;
  unit = cond marker None (Some unit);
  ended = ended ++ cond marker (whole_if (is_run_closed work.at_work.state.run) unit ∷ []) [];
}

-- an assembler of these parts
abbrev pub at_gap : Bool → Option ℕ → DepacketizerState → Option ℕ → Option AccessUnitValue → List AccessUnitValue → Assembly
at_gap gap closed state expected unit ended = record {
  state = state;
  expected = expected;
  is_gap = gap;
  closed = closed;
  unit = unit;
  ended = ended;
}

-- what a packet leaves sound, by whether it follows the one before it
abbrev sound_by : ℕ → SequencedDepacketization → ℕ × RtpBody → Bool → Bool
sound_by most s p follow = let w = after_sequenced_packet s p.0 p.1.payload in
    cond (nat_lt most (run_len w.state.run)) false (cond (is_unit_broken s.at_work w p.1.payload) false follow)

-- one that begins an access unit
first_taken : (most : ℕ) (gap : Bool) (closed : Option ℕ) (state : DepacketizerState) (expected : Option ℕ) (unit : Option AccessUnitValue) (ended : List AccessUnitValue) (p : ℕ × RtpBody) →
    is_unit_at unit p.1.timestamp ≡ false →
    (let s = sequenced_depacketization (state_with_run state None) expected [] extras.None in
    let work = after_taken_packet most s p.0 p.1.payload in
    let follow = is_following gap closed expected p.1.timestamp p.0 in
    with_unit work (ended ++ given_out (follow && is_run_closed state.run) unit) p.1.timestamp p.1.marker (whole_if (sound_by most s p follow) (filled (empty_unit p.1.timestamp) work))
    ≡ after_taken_rtp most (at_gap gap closed state expected unit ended) p)
first_taken most gap closed state expected None ended p other = refl
first_taken most gap closed state expected (Some u) ended p other = rw other refl

-- a run that is measured is closed where it was, if it is not too long
limited_same : (most : ℕ) (run : Option (List ℕ)) (gives same follow : Bool) →
    cond (nat_lt most (run_len run)) false (cond (gives || (same && is_run_closed (run_within most run))) false follow)
    ≡ cond (nat_lt most (run_len run)) false (cond (gives || (same && is_run_closed run)) false follow)
limited_same most None gives same follow = refl
limited_same most (Some run) gives same follow = elim (nat_lt most (length run)) as (λ b.
    cond b false (cond (gives || (same && is_run_closed (cond b None (Some run)))) false follow)
    ≡ cond b false (cond (gives || (same && is_run_closed (Some run))) false follow)) [ true ↦ refl | false ↦ refl ]

-- whether a unit lacks its end or its start by a packet, by what it left once its run was measured
abbrev pub broken_by : SequencedDepacketization → List ℕ → SequencedDepacketization → Bool
broken_by s packet work = gives_up_run s.at_work.state.run (s.at_work.state.format.read packet)
    || ((length s.at_work.out == length work.at_work.out) && is_run_closed work.at_work.state.run)

-- what a packet was taken by, and what is known of it then
record WasTaken (most : ℕ) (follow : Bool) (s : SequencedDepacketization) (p : ℕ × RtpBody) (r : Result Received PacketError) (sound : Bool) (work : SequencedDepacketization) : Type 0 where
  pub taken : is_taken r ≡ true
  pub answer : IsSequencedAnswer most s p.0 p.1.payload r
  pub work_is : work ≡ after_taken_packet most s p.0 p.1.payload
  pub sound_is : sound ≡ cond (is_run_too_long r) false (cond (broken_by s p.1.payload work) false follow)

sound_at : (most : ℕ) (follow : Bool) (s : SequencedDepacketization) (p : ℕ × RtpBody) (r : Result Received PacketError) (sound : Bool) (work : SequencedDepacketization) → WasTaken most follow s p r sound work →
    sound ≡ sound_by most s p follow
sound_at most follow s p r sound work it =
    let broken = broken_by s p.1.payload in
    let w = after_sequenced_packet s p.0 p.1.payload in
    it.sound_is
    ∙ ap (λ (b : Bool). cond b false (cond (broken work) false follow)) (answer_long most s p.0 p.1.payload r it.taken it.answer)
    ∙ ap (λ (v : SequencedDepacketization). cond (nat_lt most (run_len w.state.run)) false (cond (broken v) false follow)) it.work_is
    ∙ limited_same most w.state.run (gives_up_run s.at_work.state.run (s.at_work.state.format.read p.1.payload)) (length s.at_work.out == length w.out) follow

pub begins_taken : (most : ℕ) (gap : Bool) (closed : Option ℕ) (state : DepacketizerState) (expected : Option ℕ) (unit : Option AccessUnitValue) (ended : List AccessUnitValue) (p : ℕ × RtpBody)
    (r : Result Received PacketError) (sound : Bool) (work : SequencedDepacketization) → is_unit_at unit p.1.timestamp ≡ false → is_taken r ≡ true →
    (let s = sequenced_depacketization (state_with_run state None) expected [] extras.None in
    let follow = is_following gap closed expected p.1.timestamp p.0 in
    IsSequencedAnswer most s p.0 p.1.payload r → work ≡ after_taken_packet most s p.0 p.1.payload →
    sound ≡ cond (is_run_too_long r) false (cond ((0 == length work.at_work.out) && is_run_closed work.at_work.state.run) false follow) →
    with_unit work (ended ++ given_out (follow && is_run_closed state.run) unit) p.1.timestamp p.1.marker (whole_if sound (filled (empty_unit p.1.timestamp) work))
    ≡ after_taken_rtp most (at_gap gap closed state expected unit ended) p)
begins_taken most gap closed state expected unit ended p r sound work other taken answer work_is sound_is =
    let s = sequenced_depacketization (state_with_run state None) expected [] extras.None in
    let t = p.1.timestamp in
    let follow = is_following gap closed expected t p.0 in
    let it : WasTaken most follow s p r sound work = record { taken = taken; answer = answer; work_is = work_is; sound_is = sound_is } in
    let before = ended ++ given_out (follow && is_run_closed state.run) unit in
    ap (λ (w : SequencedDepacketization). with_unit w before t p.1.marker (whole_if sound (filled (empty_unit t) w))) it.work_is
    ∙ ap (λ (b : Bool). with_unit (after_taken_packet most s p.0 p.1.payload) before t p.1.marker (whole_if b (filled (empty_unit t) (after_taken_packet most s p.0 p.1.payload)))) (sound_at most follow s p r sound work it)
    ∙ first_taken most gap closed state expected unit ended p other

-- one that goes on with an access unit
goes_first : (most : ℕ) (gap : Bool) (closed : Option ℕ) (state : DepacketizerState) (expected : Option ℕ) (unit : AccessUnitValue) (number : ℕ) (payload : List ℕ) →
    (let t = unit.timestamp in
    let p : ℕ × RtpBody = (number, rtp_body t false payload) in
    let s = sequenced_depacketization state expected unit.bytes unit.extra in
    let work = after_taken_packet most s number payload in
    with_unit work [] t false (whole_if (sound_by most s p (is_following gap closed expected t number)) (filled unit work))
    ≡ after_taken_rtp most (at_gap gap closed state expected (Some unit) []) p)
goes_first most gap closed state expected unit number payload = let same = eq-eqb unit.timestamp unit.timestamp refl in rw same refl

pub goes_on_taken : (most : ℕ) (gap : Bool) (closed : Option ℕ) (state : DepacketizerState) (expected : Option ℕ) (unit : AccessUnitValue) (number : ℕ) (payload : List ℕ)
    (r : Result Received PacketError) (sound : Bool) (work : SequencedDepacketization) → is_taken r ≡ true →
    (let t = unit.timestamp in
    let s = sequenced_depacketization state expected unit.bytes unit.extra in
    IsSequencedAnswer most s number payload r → work ≡ after_taken_packet most s number payload →
    sound ≡ cond (is_run_too_long r) false (cond (broken_by s payload work) false (is_following gap closed expected t number)) →
    with_unit work [] t false (whole_if sound (filled unit work)) ≡ after_taken_rtp most (at_gap gap closed state expected (Some unit) []) (number, rtp_body t false payload))
goes_on_taken most gap closed state expected unit number payload r sound work taken answer work_is sound_is =
    let t = unit.timestamp in
    let s = sequenced_depacketization state expected unit.bytes unit.extra in
    let p : ℕ × RtpBody = (number, rtp_body t false payload) in
    let follow = is_following gap closed expected t number in
    let it : WasTaken most follow s p r sound work = record { taken = taken; answer = answer; work_is = work_is; sound_is = sound_is } in
    ap (λ (w : SequencedDepacketization). with_unit w [] t false (whole_if sound (filled unit w))) it.work_is
    ∙ ap (λ (b : Bool). with_unit (after_taken_packet most s number payload) [] t false (whole_if b (filled unit (after_taken_packet most s number payload)))) (sound_at most follow s p r sound work it)
    ∙ goes_first most gap closed state expected unit number payload

-- one that ends the access unit to which it belongs leaves what it would without its marker, and appends that
pub ends_taken : (most : ℕ) (gap : Bool) (closed : Option ℕ) (state new : DepacketizerState) (expected next : Option ℕ) (unit left : AccessUnitValue) (ended : List AccessUnitValue) (p : ℕ × RtpBody) →
    p.1.marker ≡ true → is_unit_at (Some unit) p.1.timestamp ≡ true →
    at_gap false None new next (Some left) [] ≡ after_taken_rtp most (at_gap gap closed state expected (Some unit) []) (p.0, rtp_body p.1.timestamp false p.1.payload) →
    at_gap false (Some p.1.timestamp) new next None (ended ++ whole_if (is_run_closed new.run) left ∷ []) ≡ after_taken_rtp most (at_gap gap closed state expected (Some unit) ended) p
ends_taken most gap closed state new expected next unit left ended p marker at is =
    let t = p.1.timestamp in
    let s = at_gap gap closed state expected (Some unit) [] in
    let work = after_taken_packet most (taken_by s t) p.0 p.1.payload in
    let one = unit_with most s p in
    let others = given_out (is_following gap closed expected t p.0 && is_run_closed state.run) (Some unit) in
    let same : left ≡ one = ap (λ (o : Assembly). unwrap_or o.unit left) is in
    let made : DepacketizerState → Option ℕ → AccessUnitValue → Assembly = λ r e v. at_gap false (Some t) r e None (ended ++ whole_if (is_run_closed r.run) v ∷ []) in
    let last = whole_if (is_run_closed work.at_work.state.run) one in
    let whole : Bool → List AccessUnitValue → Assembly = λ m l. at_gap false (cond m (Some t) None) work.at_work.state work.expected (cond m None (Some one)) (l ++ cond m (last ∷ []) []) in
    ap (λ (r : DepacketizerState). made r next left) (ap (λ (o : Assembly). o.state) is)
    ∙ ap (λ (e : Option ℕ). made work.at_work.state e left) (ap (λ (o : Assembly). o.expected) is)
    ∙ ap (made work.at_work.state work.expected) same
    ∙ ap (λ (l : List AccessUnitValue). whole true l) (sym (append-nil ended))
    ∙ ap (λ (b : Bool). whole true (ended ++ cond b [] others)) (sym at)
    ∙ ap (λ (m : Bool). whole m (ended ++ cond (is_unit_at (Some unit) t) [] others)) (sym marker)

-- the timestamp of an access unit with which a packet goes on
pub unit_stamp : (most : ℕ) (gap : Bool) (closed : Option ℕ) (state : DepacketizerState) (expected : Option ℕ) (unit : AccessUnitValue) (p : ℕ × RtpBody) → is_unit_at (Some unit) p.1.timestamp ≡ true →
    option_map (λ (u : AccessUnitValue). u.timestamp) (after_taken_rtp most (at_gap gap closed state expected (Some unit) []) (p.0, rtp_body p.1.timestamp false p.1.payload)).unit ≡ Some p.1.timestamp
unit_stamp most gap closed state expected unit p at = let same : unit.timestamp ≡ p.1.timestamp = grind (arith, nat_tests) in rw at (ap Some same)

-- the first of two, where the test holds
pub when_true : (b : Bool) (P Q : Type 0) → b ≡ true → MatchBool b P Q → P
when_true true P Q is h = h
when_true false P Q is h = absurd (let bad = is in cc)

-- of equal parts
pub same_open : (state : DepacketizerState) (expected : Option ℕ) (it : OpenAccessUnitView) (gap : Bool) (closed : Option ℕ) (run : Option (List ℕ)) (unit : Option AccessUnitValue) (x y : List AccessUnitValue) →
    it.is_gap ≡ gap → it.closed ≡ closed → it.run ≡ run → it.unit ≡ unit → x ≡ y →
    open_assembly state expected it x ≡ at_gap gap closed (state_with_run state run) expected unit y
same_open state expected it gap closed run unit x y is_gap is_closed is_run is_unit is_ended =
    ap (λ (g : Bool). at_gap g it.closed (state_with_run state it.run) expected it.unit x) is_gap
    ∙ ap (λ (k : Option ℕ). at_gap gap k (state_with_run state it.run) expected it.unit x) is_closed
    ∙ ap (λ (r : Option (List ℕ)). at_gap gap closed (state_with_run state r) expected it.unit x) is_run
    ∙ ap (λ (u : Option AccessUnitValue). at_gap gap closed (state_with_run state run) expected u x) is_unit
    ∙ ap (λ (l : List AccessUnitValue). at_gap gap closed (state_with_run state run) expected unit l) is_ended

-- an access unit of these parts
pub same_unit : (unit : AccessUnitValue) (t : ℕ) → unit.timestamp ≡ t → unit.is_whole ≡ true →
    unit ≡ record { timestamp = t; bytes = unit.bytes; extra = unit.extra; is_whole = true }
same_unit unit t stamp whole = ap (λ (x : ℕ). record unit { timestamp = x }) stamp ∙ ap (λ (b : Bool). record unit { timestamp = t; is_whole = b }) whole

-- a run has a length where it is open
pub some_len : (run : Option (List ℕ)) → is_some (option_map length run) ≡ is_some run
some_len None = refl
some_len (Some run) = refl

-- whether a unit lacks its end or its start, by whether a run was open and how long the text was before
pub broken_told : (most : ℕ) (s : SequencedDepacketization) (number : ℕ) (packet : List ℕ) (work : SequencedDepacketization) (had : Bool) (len : ℕ) →
    work ≡ after_taken_packet most s number packet → had ≡ is_some s.at_work.state.run → len ≡ length s.at_work.out →
    ((had && is_start (work.at_work.state.format.read packet)) || ((len == length work.at_work.out) && is_run_closed work.at_work.state.run)) ≡ broken_by s packet work
broken_told most s number packet work had len work_is had_is len_is =
    let told : Bool → ℕ → Format → Bool = λ h n f. (h && is_start (f.read packet)) || ((n == length work.at_work.out) && is_run_closed work.at_work.state.run) in
    ap (λ (h : Bool). told h len work.at_work.state.format) had_is
    ∙ ap (λ (n : ℕ). told (is_some s.at_work.state.run) n work.at_work.state.format) len_is
    ∙ ap (told (is_some s.at_work.state.run) (length s.at_work.out)) (ap (λ (w : SequencedDepacketization). w.at_work.state.format) work_is)

-- Depacketizers that go on from packets to packets.
use Rattle.std.proofs.Common.{◌≡◌, ℕ, Bool, true, false, List, [], ◌∷◌, ◌++◌, map, Option, None, Some, refl, sym, ap, ◌∙◌, append_assoc}
use Rattle.std.proofs.lemmas.List.{append-nil, map-append}
use Rattle.std.proofs.lemmas.List.Concat.{flat_map-append}
use Rattle.h26x_core.specs.declared.extra.CodecExtra.{CodecExtra}
use Rattle.h26x_core.specs.ByteStream.{unit_prefix, byte_stream}
use Rattle.h26x_model.specs.Payload.Reading.{Reading, Fragment}
use Rattle.h26x_model.specs.Receive.Received.{open_run, run_after, reading_units, units_after}
use Rattle.h26x_model.specs.Payload.Extra.{extra_after}
use Rattle.h26x_model.specs.Payload.Facts.{ExtraTells}
use Rattle.h26x_model.specs.Receive.DepacketizerState.{DepacketizerState, Depacketization, readings_units, run_after_readings, units_brought, after_packets}
use Rattle.h26x_model.proofs.ExtraLemmas.{extra_more}

-- what two lists of readings bring
pub units_from-append : (run : Option (List ℕ)) (a b : List Reading) → readings_units run (a ++ b) ≡ readings_units run a ++ readings_units (run_after_readings run a) b
units_from-append run [] b = refl
units_from-append run (r ∷ a) b =
    ap (λ (x : List (List ℕ)). reading_units run r ++ x) (units_from-append (run_after run r) a b)
    ∙ sym (append_assoc (reading_units run r) (readings_units (run_after run r) a) (readings_units (run_after_readings (run_after run r) a) b))

-- the run that is open after both
pub run_from-append : (run : Option (List ℕ)) (a b : List Reading) → run_after_readings run (a ++ b) ≡ run_after_readings (run_after_readings run a) b
run_from-append run [] b = refl
run_from-append run (r ∷ a) b = run_from-append (run_after run r) a b

-- by the run that readings leave open it is what they bring after these
pub after_is_from : (earlier readings : List Reading) → units_after earlier readings ≡ readings_units (open_run earlier) readings
after_is_from earlier [] = refl
after_is_from earlier (r ∷ readings) = ap (λ (x : List (List ℕ)). reading_units (open_run earlier) r ++ x) (after_is_from (r ∷ earlier) readings)

-- readings that leave a run open
abbrev pub readings_of_run : Option (List ℕ) → List Reading
readings_of_run None = []
readings_of_run (Some run) = Fragment true false [] None run ∷ []

-- it is this run
pub open_again : (run : Option (List ℕ)) → open_run (readings_of_run run) ≡ run
open_again None = refl
open_again (Some run) = refl

-- what readings bring whatever came before, they bring whatever run is open
pub whatever_run : (readings : List Reading) (units : List (List ℕ)) → ((earlier : List Reading) → units_after earlier readings ≡ units) →
    (run : Option (List ℕ)) → readings_units run readings ≡ units
whatever_run readings units always run =
    ap (λ x. readings_units x readings) (sym (open_again run)) ∙ sym (after_is_from (readings_of_run run) readings) ∙ always (readings_of_run run)

-- the text of units and others
text-append : (avc : Bool) (a b : List (List ℕ)) → byte_stream avc (a ++ b) ≡ byte_stream avc a ++ byte_stream avc b
text-append avc a b = flat_map-append (λ unit. unit_prefix avc unit ++ unit) a b

-- what stands after no packet
pub work_after-nil : (w : Depacketization) → after_packets w [] ≡ w
work_after-nil w = ap (λ (out : List ℕ). record { state = w.state; out = out; extra = w.extra }) (append-nil w.out)

-- packets that follow others bring what they bring from the run that these leave
pub brought-append : (r : DepacketizerState) (a b : List (List ℕ)) →
    units_brought r (a ++ b) ≡ units_brought r a ++ readings_units (run_after_readings r.run (map r.format.read a)) (map r.format.read b)
brought-append r a b = ap (readings_units r.run) (map-append r.format.read a b) ∙ units_from-append r.run (map r.format.read a) (map r.format.read b)

-- what stands after packets and others
pub work_after-append : (w : Depacketization) → ExtraTells w.state.format → (a b : List (List ℕ)) → after_packets (after_packets w a) b ≡ after_packets w (a ++ b)
work_after-append w tells a b =
    let r = w.state in
    let us = units_brought r a in
    let vs = readings_units (run_after_readings r.run (map r.format.read a)) (map r.format.read b) in
    let units = brought-append r a b in
    let run : run_after_readings (run_after_readings r.run (map r.format.read a)) (map r.format.read b) ≡ run_after_readings r.run (map r.format.read (a ++ b)) =
    sym (ap (run_after_readings r.run) (map-append r.format.read a b) ∙ run_from-append r.run (map r.format.read a) (map r.format.read b)) in
    let out : (w.out ++ byte_stream r.is_avc us) ++ byte_stream r.is_avc vs ≡ w.out ++ byte_stream r.is_avc (units_brought r (a ++ b)) =
    append_assoc w.out (byte_stream r.is_avc us) (byte_stream r.is_avc vs)
    ∙ ap (λ (x : List ℕ). w.out ++ x) (sym (text-append r.is_avc us vs) ∙ ap (byte_stream r.is_avc) (sym units)) in
    let extra : extra_after r.format (extra_after r.format w.extra us) vs ≡ extra_after r.format w.extra (units_brought r (a ++ b)) =
    extra_more r.format tells w.extra us vs ∙ ap (extra_after r.format w.extra) (sym units) in
    rw (run, out, extra) refl

-- a depacketizer with another run
abbrev pub with_run : Depacketization → Option (List ℕ) → List ℕ → CodecExtra → Depacketization
with_run w run out extra = record { state = record { format = w.state.format; is_avc = w.state.is_avc; run = run }; out = out; extra = extra }

-- what stands after one packet, by what its reading brings
pub after_one : (w : Depacketization) (packet : List ℕ) (run : Option (List ℕ)) (out : List ℕ) (extra : CodecExtra) →
    run ≡ run_after w.state.run (w.state.format.read packet) →
    out ≡ w.out ++ byte_stream w.state.is_avc (reading_units w.state.run (w.state.format.read packet)) →
    extra ≡ extra_after w.state.format w.extra (reading_units w.state.run (w.state.format.read packet)) →
    with_run w run out extra ≡ after_packets w (packet ∷ [])
after_one w packet run out extra ran written told =
    let units = reading_units w.state.run (w.state.format.read packet) in
    let one : units ≡ units_brought w.state (packet ∷ []) = sym (append-nil units) in
    rw (ran, written, told) (ap (λ (us : List (List ℕ)). with_run w (run_after w.state.run (w.state.format.read packet)) (w.out ++ byte_stream w.state.is_avc us) (extra_after w.state.format w.extra us)) one)

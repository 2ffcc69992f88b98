-- Packets of any sender: what is written is that part of what all would bring of which each packet came.
use Rattle.std.proofs.Common.{◌≡◌, ℕ, Bool, true, false, cond, List, [], ◌∷◌, ◌++◌, map, length, Option, Some, None, refl, sym, ap, ◌∙◌}
use Rattle.std.specs.Prelude.{◌||◌, nat_lt}
use Rattle.h26x_core.specs.ByteStream.{byte_stream}
use Rattle.h26x_model.specs.Payload.Reading.{Reading, Single, Aggregate, Fragment, Paci, Refused}
use Rattle.h26x_model.specs.Payload.Extra.{extra_after}
use Rattle.h26x_model.specs.Payload.Facts.{IsPayloadFormat}
use Rattle.h26x_model.specs.Receive.Received.{run_after, reading_units}
use Rattle.h26x_model.specs.Receive.DepacketizerState.{Depacketization, readings_units}
use Rattle.h26x_model.specs.Receive.RunLimit.{run_within}
use Rattle.h26x_model.specs.Carry.Loss.{keep}
use Rattle.h26x_model.specs.Carry.AnySender.{stands_alone, is_run_within, came_since, units_came, WritesWhatCame}
use Rattle.h26x_model.proofs.GapLemmas.{kept_units, written_is}

-- all units are kept, or none
kept_all : (units : List (List ℕ)) → keep (map (λ unit. true) units) units ≡ units
kept_all [] = refl
kept_all (u ∷ units) = ap (λ (x : List (List ℕ)). u ∷ x) (kept_all units)

kept_none : (units : List (List ℕ)) → keep (map (λ unit. false) units) units ≡ []
kept_none [] = refl
kept_none (u ∷ units) = kept_none units

-- those of one packet, and then others
kept_both : (b : Bool) (units : List (List ℕ)) (marks : List Bool) (rest : List (List ℕ)) →
    keep (map (λ unit. b) units ++ marks) (units ++ rest) ≡ keep (map (λ unit. b) units) units ++ keep marks rest
kept_both b [] marks rest = refl
kept_both true (u ∷ units) marks rest = ap (λ (x : List (List ℕ)). u ∷ x) (kept_both true units marks rest)
kept_both false (u ∷ units) marks rest = kept_both false units marks rest

-- a packet that came brings its units, but a later fragment of a run that didn't come
units_of_one : (run : Option (List ℕ)) (since : Bool) (r : Reading) →
    reading_units (cond since run None) r ≡ keep (map (λ unit. since || stands_alone r) (reading_units run r)) (reading_units run r)
units_of_one run true r = sym (kept_all (reading_units run r))
units_of_one run false (Single unit don) = refl
units_of_one run false (Aggregate units) = sym (kept_all (reading_units run (Aggregate units)))
units_of_one run false (Fragment true true head don body) = refl
units_of_one run false (Fragment true false head don body) = refl
units_of_one run false (Fragment false true head don body) = sym (kept_none (reading_units run (Fragment false true head don body)))
units_of_one run false (Fragment false false head don body) = refl
units_of_one run false (Paci head fields extension body) = refl
units_of_one run false (Refused error) = refl

-- a run that is measured
measured_is : (most : ℕ) (run : Option (List ℕ)) → run_within most run ≡ cond (is_run_within most run) run None
measured_is most None = refl
measured_is most (Some run) = elim (nat_lt most (length run)) as (λ b. cond b None (Some run) ≡ cond (cond b false true) (Some run) None) [
  | true ↦ refl
  | false ↦ refl
]

-- the run behind a packet that came is the one of all packets, where it came
run_of_one : (most : ℕ) (run : Option (List ℕ)) (since : Bool) (r : Reading) →
    run_within most (run_after (cond since run None) r) ≡ cond (came_since most run since true r) (run_after run r) None
run_of_one most run true r = measured_is most (run_after run r)
run_of_one most run false (Single unit don) = refl
run_of_one most run false (Aggregate units) = refl
run_of_one most run false (Fragment true true head don body) = refl
run_of_one most run false (Fragment true false head don body) = measured_is most (Some body)
run_of_one most run false (Fragment false true head don body) = refl
run_of_one most run false (Fragment false false head don body) = refl
run_of_one most run false (Paci head fields extension body) = refl
run_of_one most run false (Refused error) = refl

-- what came is what is kept
came_is : (most : ℕ) (run : Option (List ℕ)) (since : Bool) (mask : List Bool) (readings : List Reading) →
    kept_units most (cond since run None) mask readings ≡ keep (units_came most run since mask readings) (readings_units run readings)
came_is most run since [] readings = refl
came_is most run since (true ∷ mask) [] = refl
came_is most run since (false ∷ mask) [] = refl
came_is most run since (true ∷ mask) (r ∷ readings) =
    let us = reading_units run r in
    let next = came_since most run since true r in
    ap (λ (x : List (List ℕ)). x ++ kept_units most (run_within most (run_after (cond since run None) r)) mask readings) (units_of_one run since r)
    ∙ ap (λ (x : Option (List ℕ)). keep (map (λ unit. since || stands_alone r) us) us ++ kept_units most x mask readings) (run_of_one most run since r)
    ∙ ap (λ (x : List (List ℕ)). keep (map (λ unit. since || stands_alone r) us) us ++ x) (came_is most (run_after run r) next mask readings)
    ∙ sym (kept_both (since || stands_alone r) us (units_came most (run_after run r) next mask readings) (readings_units (run_after run r) readings))
came_is most run since (false ∷ mask) (r ∷ readings) =
    let us = reading_units run r in
    let marks = units_came most (run_after run r) false mask readings in
    let rest = readings_units (run_after run r) readings in
    came_is most (run_after run r) false mask readings
    ∙ ap (λ (x : List (List ℕ)). x ++ keep marks rest) (sym (kept_none us))
    ∙ sym (kept_both false us marks rest)

-- so what came is written and told
pub writes_what_came : (most : ℕ) (w : Depacketization) (mask : List Bool) (packets : List (List ℕ)) → IsPayloadFormat w.state.format → WritesWhatCame most w mask packets
writes_what_came most w mask packets ok =
    let over = written_is most w mask packets ok.extra in
    let came = came_is most w.state.run true mask (map w.state.format.read packets) in
    record {
      written = over.0 ∙ ap (λ (us : List (List ℕ)). w.out ++ byte_stream w.state.is_avc us) came;
      told = over.1 ∙ ap (extra_after w.state.format w.extra) came;
    }

-- A reading brings what it is taken as.
use Rattle.std.proofs.Common.{◌≡◌, ℕ, Bool, true, false, List, [], ◌∷◌, map, Option, Some, None, Result, refl, sym, ap, ◌∙◌}
use Rattle.std.specs.Prelude.{◌&&◌}
use Rattle.std.specs.List.{list_any}
use Rattle.h26x_core.specs.declared.error.PacketError.{PacketError}
use Rattle.h26x_model.specs.Payload.Format.{Format}
use Rattle.h26x_model.specs.Payload.Reading.{Reading, Single, Aggregate, Fragment, Paci, Refused, without_don}
use Rattle.h26x_model.specs.Receive.Received.{reading_units, run_after}
use Rattle.h26x_model.specs.Receive.Outcome.{is_startless, is_too_long, IsReadingOutcome}
use Rattle.h26x_depacketizer.specs.declared.parts.Parts.{Parts}
use Rattle.h26x_depacketizer.specs.declared.parts.Parts.TheVariants as p
use Rattle.h26x_depacketizer.specs.Run.{IsWriteOutcome}
use Rattle.h26x_depacketizer.specs.DepacketizerView.{taken_as, parts_reading}
use Rattle.h26x_depacketizer.specs.Look.{borne_units, begun_units}

-- numbers put away from units leave the units
units_again : (units : List (List ℕ × Option ℕ)) → map (λ (u : List ℕ × Option ℕ). u.0) (map (λ (u : List ℕ × Option ℕ). without_don u.0) units) ≡ map (λ (u : List ℕ × Option ℕ). u.0) units
units_again [] = refl
units_again (u ∷ units) = ap (λ (x : List (List ℕ)). u.0 ∷ x) (units_again units)

-- the units are the same
pub same_units : (run : Option (List ℕ)) (reading : Reading) → reading_units run reading ≡ reading_units run (taken_as reading)
same_units run (Single unit don) = refl
same_units run (Aggregate units) = rw (units_again units) refl
same_units run (Fragment start end head don body) = refl
same_units run (Paci head fields extension body) = refl
same_units run (Refused error) = refl

-- so they are where it is taken as this reading
pub taken_brings : (run : Option (List ℕ)) (reading other : Reading) → taken_as reading ≡ other → reading_units run reading ≡ reading_units run other
taken_brings run reading other same = same_units run reading ∙ ap (reading_units run) same

-- and so is the run
pub same_run : (run : Option (List ℕ)) (reading : Reading) → run_after run reading ≡ run_after run (taken_as reading)
same_run run (Single unit don) = refl
same_run run (Aggregate units) = refl
same_run run (Fragment start end head don body) = refl
same_run run (Paci head fields extension body) = refl
same_run run (Refused error) = refl

-- what becomes of a packet that was read: a unit that it brings is too long, or it is taken, or memory lacks
pub read_outcome : (f : Format) (units : List ℕ → List (List ℕ)) (packet : List ℕ) (parts : Parts) (avc : Bool) (run : Option (List ℕ)) (reading : Reading) (outcome : Result (Unit {0}) PacketError) →
    taken_as reading ≡ parts_reading f units packet parts → IsWriteOutcome (avc && list_any is_too_long (reading_units run reading)) outcome →
    IsReadingOutcome avc run reading outcome
read_outcome f units packet parts avc run (Single unit don) outcome same is = is
read_outcome f units packet parts avc run (Aggregate all) outcome same is = is
read_outcome f units packet parts avc run (Fragment start end head don body) outcome same is = is
read_outcome f units packet parts avc run (Paci head fields extension body) outcome same is = is
read_outcome f units packet p.Whole avc run (Refused error) outcome same is = absurd cc
read_outcome f units packet (p.Unit head body) avc run (Refused error) outcome same is = absurd cc
read_outcome f units packet (p.Aggregate bytes size) avc run (Refused error) outcome same is = absurd cc
read_outcome f units packet (p.Fragment fragment) avc run (Refused error) outcome same is = absurd cc

-- and whether it is a fragment without a start
pub same_startless : (run : Option (List ℕ)) (reading : Reading) → is_startless run reading ≡ is_startless run (taken_as reading)
same_startless None (Single unit don) = refl
same_startless None (Aggregate units) = refl
same_startless None (Fragment true end head don body) = refl
same_startless None (Fragment false end head don body) = refl
same_startless None (Paci head fields extension body) = refl
same_startless None (Refused error) = refl
same_startless (Some run) reading = refl

-- numbers put away from units, where the units are these
numbers_away : (pairs : List (List ℕ × Option ℕ)) → map (λ (u : List ℕ × Option ℕ). without_don u.0) pairs ≡ map without_don (map (λ (u : List ℕ × Option ℕ). u.0) pairs)
numbers_away [] = refl
numbers_away (u ∷ pairs) = ap (λ (x : List (List ℕ × Option ℕ)). without_don u.0 ∷ x) (numbers_away pairs)

-- an aggregate of these units is taken as one without numbers
pub units_taken : (pairs : List (List ℕ × Option ℕ)) (units : List (List ℕ)) → map (λ (u : List ℕ × Option ℕ). u.0) pairs ≡ units →
    taken_as (Aggregate pairs) ≡ Aggregate (map without_don units)
units_taken pairs units is = ap Aggregate (numbers_away pairs ∙ ap (map without_don) is)

-- what is taken as refused is refused
pub taken_refused : (reading : Reading) (error : PacketError) → taken_as reading ≡ Refused error → reading ≡ Refused error
taken_refused (Single unit don) error is = absurd cc
taken_refused (Aggregate units) error is = absurd cc
taken_refused (Fragment start end head don body) error is = absurd cc
taken_refused (Paci head fields extension body) error is = absurd cc
taken_refused (Refused other) error is = is

-- it bears something of the units of what it is taken as
pub taken_bears : (reading other : Reading) → taken_as reading ≡ other → borne_units reading ≡ borne_units other
taken_bears (Single unit don) other same = ap borne_units same
taken_bears (Aggregate units) other same = sym (units_again units) ∙ ap borne_units same
taken_bears (Fragment start end head don body) other same = ap borne_units same
taken_bears (Paci head fields extension body) other same = ap borne_units same
taken_bears (Refused error) other same = ap borne_units same

-- and begins them
pub taken_begins : (reading other : Reading) → taken_as reading ≡ other → begun_units reading ≡ begun_units other
taken_begins (Single unit don) other same = ap begun_units same
taken_begins (Aggregate units) other same = sym (units_again units) ∙ ap begun_units same
taken_begins (Fragment start end head don body) other same = ap begun_units same
taken_begins (Paci head fields extension body) other same = ap begun_units same
taken_begins (Refused error) other same = ap begun_units same

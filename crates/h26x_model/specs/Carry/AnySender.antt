-- Packets of any sender, whatever they are, of which some are missing: what is written is that part of
-- what all of them would bring of which each packet came (ours).
use Rattle.std.specs.Prelude.{◌≡◌, ℕ, nat_lt, Bool, true, false, ◌&&◌, ◌||◌, if◌then◌else◌, List, [], ◌∷◌, ◌++◌, length, map, Option, Some, None}
use Rattle.h26x_core.specs.ByteStream.{byte_stream}
use Rattle.h26x_model.specs.Payload.Reading.{Reading, Fragment, is_start}
use Rattle.h26x_model.specs.Payload.Extra.{extra_after}
use Rattle.h26x_model.specs.Receive.Received.{run_after, reading_units}
use Rattle.h26x_model.specs.Receive.DepacketizerState.{Depacketization, units_brought}
use Rattle.h26x_model.specs.Carry.Loss.{keep}
use Rattle.h26x_model.specs.Carry.Gaps.{after_kept_packets}

-- whether what a packet brings needs no packet before it: it is no later fragment
abbrev pub stands_alone : Reading → Bool
stands_alone (Fragment false end head don body) = false
stands_alone reading = true

-- whether a run holds no more bytes than this
abbrev pub is_run_within : ℕ → Option (List ℕ) → Bool
is_run_within most None = true
is_run_within most (Some run) = if nat_lt most (length run) then false else true

-- Whether each packet came since the run that is open began, and it never was too long: so before a
-- packet, whether that came, and behind it.
abbrev pub came_since : ℕ → Option (List ℕ) → Bool → Bool → Reading → Bool
came_since most run since came reading =
    (came && (since || is_start reading)) && is_run_within most (run_after run reading)

-- Of each unit that all of the packets would bring, whether each of its packets came, those between
-- them too, and its run never was too long: a mask says which packets came. This run is open before,
-- and it came or not.
abbrev pub units_came : ℕ → Option (List ℕ) → Bool → List Bool → List Reading → List Bool
units_came most run since (came ∷ mask) (reading ∷ readings) =
    map (λ unit. came && (since || stands_alone reading)) (reading_units run reading)
    ++ units_came most (run_after run reading) (came_since most run since came reading) mask readings
units_came most run since mask readings = []

-- Where the open run is given up at each packet that is missing, and where it is too long: of what all
-- would bring, exactly what came is written and told.
pub record WritesWhatCame (most : ℕ) (w : Depacketization) (mask : List Bool)
    (packets : List (List ℕ)) : Type 0 where
  pub written : (after_kept_packets most w mask packets).out ≡ w.out ++ byte_stream w.state.is_avc
      (keep (units_came most w.state.run true mask (map w.state.format.read packets))
      (units_brought w.state packets))
  pub told : (after_kept_packets most w mask packets).extra ≡ extra_after w.state.format w.extra
      (keep (units_came most w.state.run true mask (map w.state.format.read packets))
      (units_brought w.state packets))

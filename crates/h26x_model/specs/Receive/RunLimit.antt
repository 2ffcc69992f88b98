-- How much an open run holds, and a run that is given up (ours).
use Rattle.std.specs.Prelude.{ℕ, nat_lt, if◌then◌else◌, List, length, Option, Some, None}
use Rattle.h26x_model.specs.Receive.DepacketizerState.{DepacketizerState, Depacketization}

-- how many bytes a run holds, none where none is open
abbrev pub run_len : Option (List ℕ) → ℕ
run_len None = 0
run_len (Some run) = length run

-- a run that is given up where it holds more bytes than this
abbrev pub run_within : ℕ → Option (List ℕ) → Option (List ℕ)
run_within most None = None
run_within most (Some run) = if nat_lt most (length run) then None else Some run

-- the same depacketizer with this run
abbrev pub state_with_run : DepacketizerState → Option (List ℕ) → DepacketizerState
state_with_run r run = record { format = r.format; is_avc = r.is_avc; run = run }

-- the same at work
abbrev pub with_open_run : Depacketization → Option (List ℕ) → Depacketization
with_open_run w run = record { state = state_with_run w.state run; out = w.out; extra = w.extra }

-- its run given up
abbrev pub without_open_run : Depacketization → Depacketization
without_open_run w = with_open_run w None

-- its run given up where it holds more bytes than this
abbrev pub with_run_within : ℕ → Depacketization → Depacketization
with_run_within most w = with_open_run w (run_within most w.state.run)

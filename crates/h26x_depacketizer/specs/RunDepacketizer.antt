-- What a depacketizer with an open run is where it takes a packet (ours).
use Rattle.std.specs.Prelude.{◌≡◌, ℕ, ◌≤◌, List, Option, None}
use Rattle.h26x_core.specs.declared.extra.CodecExtra.{CodecExtra}
use Rattle.h26x_model.specs.Receive.DepacketizerState.{DepacketizerState, Depacketization, depacketization}
use Rattle.h26x_model.specs.Receive.RunLimit.{run_len, state_with_run, without_open_run}
use Rattle.h26x_depacketizer.specs.UnitSink.{Sink}

-- but for their open runs two are the same
abbrev pub IsSameBesideRun : {A : Type 0} → (Option (List ℕ) → A → A) → A → A → Type 0
IsSameBesideRun with_run a b = with_run None a ≡ with_run None b

-- a run that is within a limit stays so
abbrev pub RunStaysWithin : ℕ → Option (List ℕ) → Option (List ℕ) → Type 0
RunStaysWithin limit before after = run_len before ≤ limit → run_len after ≤ limit

-- a depacketizer whose run was given up
abbrev pub runless : DepacketizerState → DepacketizerState
runless r = state_with_run r None

-- the same at work on a sink
abbrev pub anew_at_sink : DepacketizerState → Sink → CodecExtra → Depacketization
anew_at_sink r sink extra = without_open_run (depacketization r sink.bytes extra)

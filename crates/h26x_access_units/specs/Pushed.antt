-- What becomes of packets that are given to a receiver (ours).
use Rattle.std.specs.Prelude.{◌≡◌, ◌⊎◌, Bool, true, false}
use Rattle.h26x_reorder.specs.declared.pushed.Pushed.{Pushed}
use Rattle.h26x_reorder.specs.declared.pushed.Pushed.TheVariants as buffered
use Rattle.h26x_reorder.specs.declared.buffer.NotHeldReason.{NotHeldReason}
use Rattle.h26x_reorder.specs.declared.buffer.NotHeldReason.TheVariants as held
use Rattle.h26x_access_units.specs.declared.pushed.Pushed as own
use Rattle.h26x_access_units.specs.declared.pushed.Pushed.TheVariants as pushes
use Rattle.h26x_access_units.specs.declared.pushed.NotPushedReason.{NotPushedReason}
use Rattle.h26x_access_units.specs.declared.pushed.NotPushedReason.TheVariants as reasons

-- the answer of a reorder buffer
abbrev pub as_pushed : Pushed → own.Pushed
as_pushed buffered.Held = pushes.Held
as_pushed (buffered.Late n) = pushes.Late n
as_pushed buffered.Twice = pushes.Twice

-- whether a packet for which this is answered is kept, which may want memory
abbrev pub is_kept : own.Pushed → Bool
is_kept (pushes.Late n) = false
is_kept pushes.Twice = false
is_kept pushes.Full = false
is_kept answer = true

-- why a packet doesn't wait for which this is answered: where it would wait, memory lacks
abbrev pub not_pushed_reason : own.Pushed → NotPushedReason
not_pushed_reason (pushes.Late n) = reasons.Late n
not_pushed_reason pushes.Twice = reasons.Twice
not_pushed_reason pushes.Full = reasons.Full
not_pushed_reason answer = reasons.OutOfMemory

-- what a reorder buffer says
abbrev pub as_not_pushed : NotHeldReason → NotPushedReason
as_not_pushed (held.Late n) = reasons.Late n
as_not_pushed held.Twice = reasons.Twice
as_not_pushed held.OutOfMemory = reasons.OutOfMemory

-- why a packet that is given by value doesn't wait: memory lacks, or what is answered for it
abbrev pub IsNotPushedReason : own.Pushed → NotPushedReason → Type 0
IsNotPushedReason answer reason = (reason ≡ reasons.OutOfMemory)
    ⊎ (reason ≡ not_pushed_reason answer)

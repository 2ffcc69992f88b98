-- What became of a packet with its sequence number, and how many bytes it completed.
use Rattle.std.specs.Prelude.{ℕ, Result, Ok, Err}
use Rattle.h26x_core.specs.declared.error.PacketError.{PacketError}
use Rattle.h26x_receiver.specs.declared.received.Received.{Received}
use Rattle.h26x_handles.specs.declared.sequenced.Completed.{Completed}

-- what became of it
abbrev pub received_of : Result Completed PacketError → Result Received PacketError
received_of (Ok it) = Ok it.received
received_of (Err error) = Err error

-- how many bytes it completed: none where it is refused
abbrev pub len_of : Result Completed PacketError → ℕ
len_of (Ok it) = it.len
len_of (Err error) = 0

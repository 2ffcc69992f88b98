-- What stands behind a handle.
use Rattle.std.specs.Prelude.{ℕ, List, Option}
use Rattle.h26x_handles.specs.declared.settings.SendingSettings.{SendingSettings}
use Rattle.h26x_codec.specs.declared.any_packetizer.AnyPacketizer.{AnyPacketizer}
use Rattle.h26x_codec.specs.declared.any_depacketizer.AnyDepacketizer.{AnyDepacketizer}

-- a packetizer, the packets of its last call, and its settings
pub record SendingEndpoint : Type 0 where
  pub packetizer : AnyPacketizer
  pub packets : List (List ℕ)
  pub settings : SendingSettings

-- a depacketizer, and what its last accepted packet completed and had no room for
pub record ReceivingEndpoint : Type 0 where
  pub depacketizer : AnyDepacketizer
  pub written : List ℕ

-- A receiver of packets with their sequence numbers: its depacketizer, the number that is expected
-- next, if one was taken, how many bytes an open run may hold, and what the last packet that was
-- taken completed and had no room for
pub record SequencedEndpoint : Type 0 where
  pub depacketizer : AnyDepacketizer
  pub expected : Option ℕ
  pub run_limit : ℕ
  pub written : List ℕ

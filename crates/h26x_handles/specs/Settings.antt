-- The settings of a packetizer behind a handle.
use Rattle.std.specs.Prelude.{true, false}
use Rattle.h26x_packetizer.specs.declared.packing.Packing.TheVariants.{Together}
use Rattle.h26x_handles.specs.declared.settings.SendingSettings.{SendingSettings}

-- those of a new one: aggregates of H.265 have the header of the unit behind them, units share packets,
-- and delimiters and filler go
abbrev pub first_settings : SendingSettings
first_settings = record { lowest_header = false; packing = Together; delimiters = true }

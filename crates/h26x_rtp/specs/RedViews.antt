-- What redundant payloads of the code say.
use Rattle.std.specs.Prelude.{◌≡◌, Result, Ok, Err}
use Rattle.h26x_rtp.specs.declared.red.RedBlock.{RedBlock}
use Rattle.h26x_rtp.specs.declared.red.RedError.{RedError}
use Rattle.h26x_rtp.specs.declared.red.RedPayload.{RedPayload}
use Rattle.h26x_rtp.specs.Red.{BlockParts, RedParts}

abbrev pub block_view : RedBlock → BlockParts
block_view it = record {
  payload_type = it.payload_type;
  offset = it.timestamp_offset;
  bytes = it.bytes.now;
}

abbrev pub red_view : RedPayload → RedParts
red_view it = record {
  blocks = it.blocks;
  payload_type = it.payload_type;
  primary = it.primary.now;
}

-- what a call answered is what is read
abbrev pub IsReadAsRed : Result RedPayload RedError → Result RedParts RedError → Type 0
IsReadAsRed (Ok it) read = read ≡ Ok (red_view it)
IsReadAsRed (Err e) read = read ≡ Err e

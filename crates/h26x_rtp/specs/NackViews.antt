-- What a generic NACK of the code says.
use Rattle.h26x_rtp.specs.declared.nack.GenericNack.{GenericNack}
use Rattle.h26x_rtp.specs.Nack.{NackParts}

abbrev pub nack_view : GenericNack → NackParts
nack_view it = record { sender = it.sender; media = it.media; pairs = it.pairs }

-- What a parameter of the code says.
use Rattle.h26x_fmtp.specs.Pairs as text
use Rattle.h26x_fmtp.specs.declared.pairs.Pair.{Pair}

abbrev pub pair_view : Pair → text.Pair
pair_view it = record { name = it.name.now; value = it.value.now }

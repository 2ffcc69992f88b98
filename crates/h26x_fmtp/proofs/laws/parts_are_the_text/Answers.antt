use Rattle.std.proofs.Common.{false}
use Rattle.h26x_fmtp.proofs.WrittenLemmas.{parts_joined}
use Rattle.h26x_fmtp.proofs.laws.parts_are_the_text.Goals as goal

pub returns : goal.returns
returns c = parts_joined false

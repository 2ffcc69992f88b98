use Rattle.h26x_fmtp.specs.Pairs.{pairs}
use Rattle.h26x_fmtp.proofs.WrittenLemmas.{pairs_written, pairs_writable}
use Rattle.h26x_fmtp.proofs.laws.what_is_read_can_be_written.Goals as goal

pub returns : goal.returns
returns c = record {
  writable = pairs_writable;
  again = λ text h. pairs_written (pairs text) (pairs_writable text h);
}

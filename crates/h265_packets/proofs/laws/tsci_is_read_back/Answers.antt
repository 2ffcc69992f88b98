use Rattle.std.proofs.Common.{arith}
use Rattle.h265_packets.proofs.PaciLemmas.{tsci_back}
use Rattle.h265_packets.proofs.laws.tsci_is_read_back.Goals as goal

pub returns : goal.returns
returns c = record {
  tsci = tsci_back;
  tl0picidx = λ a b c a_byte b_byte c_byte. omega arith;
  irap_pic_id = λ a b c b_byte c_byte. omega arith;
  third = λ a b c c_byte. omega arith;
  low = λ a b c. omega arith;
}

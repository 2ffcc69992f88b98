use Rattle.h265_packets.proofs.PaciLemmas.{fields_are, a_back, f0_back}
use Rattle.h265_payload.proofs.PaciLemmas.{read_back, shown_back}
use Rattle.h265_payload.proofs.laws.paci_is_read_back.Goals as goal

pub returns : goal.returns
returns c = record {
  back = read_back;
  shows = shown_back;
  a = a_back;
  ctype = λ high phes within. (fields_are high phes within).ctype;
  phs_size = λ high phes within. (fields_are high phes within).phs_size;
  f0 = f0_back;
  others = λ high phes within. (fields_are high phes within).others;
}

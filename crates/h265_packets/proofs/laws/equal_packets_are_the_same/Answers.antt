use Rattle.h265_packets.proofs.EqualityLemmas.{decides, single_same, fragmentation_same, first_same, other_same, aggregation_same, paci_same, payload_same}
use Rattle.h265_packets.specs.Equality.{single_equiv, fragmentation_equiv, first_equiv, other_equiv, aggregation_equiv, paci_equiv, payload_equiv}
use Rattle.h265_packets.proofs.laws.equal_packets_are_the_same.Goals as goal

pub returns : goal.returns
returns c = record {
  payload = decides payload_same payload_equiv;
  single = decides single_same single_equiv;
  fragmentation = decides fragmentation_same fragmentation_equiv;
  first = decides first_same first_equiv;
  other = decides other_same other_equiv;
  aggregation = decides aggregation_same aggregation_equiv;
  paci = decides paci_same paci_equiv;
}

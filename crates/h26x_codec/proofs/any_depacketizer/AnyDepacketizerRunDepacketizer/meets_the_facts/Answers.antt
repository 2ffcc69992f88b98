use Rattle.h26x_codec.proofs.any_depacketizer.AnyDepacketizerRunDepacketizer.meets_the_facts.Goals as goal

pub returns-in-H265 : goal.returns-in-H265
returns-in-H265 c = rw c.in-H265.is c.meets_the_facts-in-H265.ensures

pub returns-in-H266 : goal.returns-in-H266
returns-in-H266 c = rw c.in-H266.is c.meets_the_facts-in-H266.ensures

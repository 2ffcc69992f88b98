use Rattle.h26x_codec.proofs.any_depacketizer.AnyDepacketizer.depacketize_as.Goals as goal

pub returns-in-H265-clause-taken : goal.returns-in-H265-clause-taken
returns-in-H265-clause-taken g c = rw c.in-H265.is c.depacketize_as-in-H265.ensures.taken

pub returns-in-H266-clause-outcome : goal.returns-in-H266-clause-outcome
returns-in-H266-clause-outcome g c = rw c.in-H266.is c.depacketize_as-in-H266.ensures.outcome

pub returns-in-H266-clause-taken : goal.returns-in-H266-clause-taken
returns-in-H266-clause-taken g c = rw c.in-H266.is c.depacketize_as-in-H266.ensures.taken

pub returns-in-H265-clause-outcome : goal.returns-in-H265-clause-outcome
returns-in-H265-clause-outcome g c = rw c.in-H265.is c.depacketize_as-in-H265.ensures.outcome

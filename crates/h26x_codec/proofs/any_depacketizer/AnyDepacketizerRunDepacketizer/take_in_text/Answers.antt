use Rattle.h26x_codec.proofs.any_depacketizer.AnyDepacketizerRunDepacketizer.take_in_text.Goals as goal

pub returns-in-H265-clause-taken : goal.returns-in-H265-clause-taken
returns-in-H265-clause-taken c = rw c.in-H265.is c.depacketize_in_text-in-H265.ensures.taken

pub returns-in-H266-clause-outcome : goal.returns-in-H266-clause-outcome
returns-in-H266-clause-outcome c = rw c.in-H266.is c.depacketize_in_text-in-H266.ensures.outcome

pub returns-in-H266-clause-taken : goal.returns-in-H266-clause-taken
returns-in-H266-clause-taken c = rw c.in-H266.is c.depacketize_in_text-in-H266.ensures.taken

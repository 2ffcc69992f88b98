use Rattle.h26x_codec.proofs.any_packetizer.AnyPacketizer.units_size.Goals as goal

pub returns-in-H265-clause-refused : goal.returns-in-H265-clause-refused
returns-in-H265-clause-refused c = rw c.in-H265.is c.units_size-in-H265.ensures.refused

pub returns-in-H265-clause-memory : goal.returns-in-H265-clause-memory
returns-in-H265-clause-memory c = rw c.in-H265.is c.units_size-in-H265.ensures.memory

pub returns-in-H266-clause-refused : goal.returns-in-H266-clause-refused
returns-in-H266-clause-refused c = rw c.in-H266.is c.units_size-in-H266.ensures.refused

pub returns-in-H266-clause-memory : goal.returns-in-H266-clause-memory
returns-in-H266-clause-memory c = rw c.in-H266.is c.units_size-in-H266.ensures.memory

use Rattle.h26x_codec.proofs.any_packetizer.AnyPacketizer.packetize_units_into.Goals as goal

pub returns-in-H264-clause-bounded : goal.returns-in-H264-clause-bounded
returns-in-H264-clause-bounded c = rw c.in-H264.is c.packetize_units_into.ensures.bounded

pub returns-in-H265-clause-bounded : goal.returns-in-H265-clause-bounded
returns-in-H265-clause-bounded c = rw c.in-H265.is c.packetize_units_into-in-H265.ensures.bounded

pub returns-in-H265-clause-refused : goal.returns-in-H265-clause-refused
returns-in-H265-clause-refused c = rw c.in-H265.is c.packetize_units_into-in-H265.ensures.refused

pub returns-in-H265-clause-memory : goal.returns-in-H265-clause-memory
returns-in-H265-clause-memory c = rw c.in-H265.is c.packetize_units_into-in-H265.ensures.memory

pub returns-in-H266-clause-bounded : goal.returns-in-H266-clause-bounded
returns-in-H266-clause-bounded c = rw c.in-H266.is c.packetize_units_into-in-H266.ensures.bounded

pub returns-in-H266-clause-refused : goal.returns-in-H266-clause-refused
returns-in-H266-clause-refused c = rw c.in-H266.is c.packetize_units_into-in-H266.ensures.refused

pub returns-in-H266-clause-memory : goal.returns-in-H266-clause-memory
returns-in-H266-clause-memory c = rw c.in-H266.is c.packetize_units_into-in-H266.ensures.memory
